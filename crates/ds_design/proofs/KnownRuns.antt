-- A clocked run on known values has known values.
use Rattle.std.proofs.Common.{◌≡◌, ◌≢◌, ◌∙◌, ℕ, zero, suc, ◌<◌, ◌≤◌, ◌==◌, ◌||◌, if◌then◌else◌, Bool, true, false, List, [], ◌∷◌, length, get_or, map, inl, inr, refl, arith, ap, sym, subst, add-one}
use Rattle.std.specs.Prelude.{All, Contains}
use Rattle.std.proofs.lemmas.List.{get_or-map, length-map}
use Rattle.std.proofs.lemmas.List.Elements.{All-head, All-map, All-tail, Contains-append_cases}
use Rattle.ds_base.specs.Values.{AreKnown, Row, both}
use Rattle.ds_base.specs.declared.value.Value.{Value}
use Rattle.ds_base.specs.declared.value.Value.TheVariants.{Zero, One, Unknown}
use Rattle.ds_cover.specs.Cover.{Cover, agrees, matches, some_match, value_at, value_of, values_at}
use Rattle.ds_cover.proofs.SmallTableWords.{either_known, signed_known}
use Rattle.ds_cover.proofs.TableValues.{one_known, zero_known}
use Rattle.ds_design.specs.Accepted.{IsAccepted}
use Rattle.ds_design.specs.Circuit.{Circuit, columns, data_nets, register_nets}
use Rattle.ds_design.specs.Run.{IsRun, row_at}
use Rattle.ds_design.specs.Valuation.{IsValuation}
use Rattle.ds_design.proofs.OneValuation.{kept_from_sources}

-- a value that is zero or one
abbrev IsKnown : Value → Type 0
IsKnown value = value ≢ Unknown

both_known : (a b : Value) → IsKnown a → IsKnown b → IsKnown (both a b)
both_known Zero b left right = left
both_known One b left right = right
both_known Unknown b left right = absurd (left refl)

chosen_known : (yes : Bool) → IsKnown (if yes then One else Zero)
chosen_known true = one_known
chosen_known false = zero_known

agrees_known : (mark : ℕ) (value : Value) → IsKnown value → IsKnown (agrees mark value)
agrees_known mark Zero known = chosen_known ((mark == 45) || (mark == 48))
agrees_known mark One known = chosen_known ((mark == 45) || (mark == 49))
agrees_known mark Unknown known = absurd (known refl)

matches_known : (marks : List ℕ) (values : Row) → AreKnown values → IsKnown (matches marks values)
matches_known [] values known = one_known
matches_known (mark ∷ marks) [] known = one_known
matches_known (mark ∷ marks) (value ∷ values) known =
    both_known (agrees mark value) (matches marks values) (agrees_known mark value (All-head IsKnown value values known)) (matches_known marks values (All-tail IsKnown value values known))

some_match_known : (rows : List (List ℕ)) (values : Row) → AreKnown values → IsKnown (some_match rows values)
some_match_known [] values known = zero_known
some_match_known (row ∷ rows) values known =
    either_known (matches row values) (some_match rows values) (matches_known row values known) (some_match_known rows values known)

-- a table whose inputs are known has a known value
value_known : (cover : Cover) (one : Row) → All (λ net. IsKnown (value_at one net)) cover.inputs → IsKnown (value_of cover one)
value_known cover one known =
    signed_known cover.on (some_match cover.rows (values_at one cover.inputs))
    (some_match_known cover.rows (values_at one cover.inputs) (All-map IsKnown (value_at one) cover.inputs known))

-- nets that are read as a known row are known
read_known : (nets : Row) (these : List ℕ) (row : Row) → values_at nets these ≡ row → AreKnown row → (net : ℕ) → Contains these net → IsKnown (value_at nets net)
read_known nets these row is known net (k, inside, here) =
    subst IsKnown (get_or-map (value_at nets) these k net Zero inside ∙ ap (value_at nets) here)
    (subst AreKnown (sym is) known k Zero (let long : length (map (value_at nets) these) ≡ length these = length-map these (value_at nets) in omega arith))

-- in a turn with a known state and a known vector each net is known
turn_known : (c : Circuit) → IsAccepted c → (state vector nets : Row) → IsValuation c state vector nets → AreKnown state → AreKnown vector → (net : ℕ) → IsKnown (value_at nets net)
turn_known c accepted state vector nets is states vectors net =
    kept_from_sources (λ one other. IsKnown one) zero_known (λ cover one other. value_known cover one) c accepted state vector nets is state vector nets is net
    (λ source is_source reaches. elim (Contains-append_cases (columns c) (register_nets c) source is_source) [
      | inl column ↦ read_known nets (columns c) vector is.column vectors source column
      | inr register ↦ read_known nets (register_nets c) state is.register states source register
    ])

module _ (c : Circuit) (accepted : IsAccepted c) (start : Row) (vectors : List Row) (starts : AreKnown start) (rows : All AreKnown vectors) (state nets : ℕ → Row) (run : IsRun c start vectors state nets) where
  pub nets_known : (k : ℕ) → k < length vectors → AreKnown (state k) → (net : ℕ) → IsKnown (value_at (nets k) net)
  nets_known k below states = turn_known c accepted (state k) (row_at vectors k) (nets k) (run.settles k below) states (rows k [] below)

  pub state_known : (k : ℕ) → k ≤ length vectors → AreKnown (state k)
  state_known zero below = subst AreKnown (sym run.starts) starts
  state_known (suc k) below =
      let lower : k < length vectors = omega arith in
      let next : state (suc k) ≡ values_at (nets k) (data_nets c) = rw add-one at (run.steps k lower) in
      subst AreKnown (sym next) (All-map IsKnown (value_at (nets k)) (data_nets c) (λ i d inside. nets_known k lower (state_known k (omega arith)) (get_or (data_nets c) i d)))
