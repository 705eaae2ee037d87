-- What nets have after some of them are given values.
use Rattle.std.proofs.Common.{◌≡◌, ◌≢◌, ◌∙◌, ℕ, suc, ◌<◌, List, [], ◌∷◌, length, set, replicate, refl, ap, sym, subst, arith, inl, inr}
use Rattle.std.specs.Prelude.{All, AllPairs, Contains}
use Rattle.std.proofs.lemmas.Bool.{cases_lt}
use Rattle.std.proofs.lemmas.List.{get_or-replicate, get_or-set_same, get_or_past, length-replicate, length-set}
use Rattle.std.proofs.lemmas.List.Elements.{All-head, All-tail}
use Rattle.ds_base.specs.Values.{Row}
use Rattle.ds_base.specs.declared.value.Value.{Value}
use Rattle.ds_base.specs.declared.value.Value.TheVariants.{Zero}
use Rattle.ds_base.proofs.ListLemmas.{Contains-head, Contains-tail}
use Rattle.ds_cover.specs.Cover.{value_at, values_at}
use Rattle.ds_settle.proofs.SetBits.{value_at-set_other}
use Rattle.ds_opening.specs.Foreseen.{given}

-- a net that is given no value keeps its own
pub given_others : (these : List ℕ) (values nets : Row) (net : ℕ) → ¬ Contains these net
    → value_at (given these values nets) net ≡ value_at nets net
given_others [] values nets net free = refl
given_others (n ∷ these) [] nets net free = refl
given_others (n ∷ these) (v ∷ values) nets net free =
    given_others these values (set nets n v) net (λ has. free (Contains-tail n these net has))
    ∙ value_at-set_other nets n net v
    (λ e. free (subst (λ (x : ℕ). Contains (n ∷ these) x) (sym e) (Contains-head n these)))

pub given_long : (these : List ℕ) (values nets : Row)
    → length (given these values nets) ≡ length nets
given_long [] values nets = refl
given_long (n ∷ these) [] nets = refl
given_long (n ∷ these) (v ∷ values) nets =
    given_long these values (set nets n v) ∙ length-set nets n v

not_later : (n : ℕ) (these : List ℕ) → AllPairs (λ a b. a ≢ b) (n ∷ these) → ¬ Contains these n
not_later n these once (k, inside, is) = once 0 (suc k) n (omega arith) (omega arith) (sym is)

-- nets without repeats have the values that they are given
pub given_values : (these : List ℕ) (values nets : Row) → length values ≡ length these
    → AllPairs (λ a b. a ≢ b) these → All (λ net. net < length nets) these
    → values_at (given these values nets) these ≡ values
given_values [] [] nets size once low = refl
given_values [] (v ∷ values) nets size once low = absurd (omega arith)
given_values (n ∷ these) [] nets size once low = absurd (omega arith)
given_values (n ∷ these) (v ∷ values) nets size once low =
    let next : Row = set nets n v in
    let within : n < length nets = All-head (λ net. net < length nets) n these low in
    let here : value_at (given these values next) n ≡ v =
    given_others these values next n (not_later n these once)
    ∙ get_or-set_same nets n v Zero within in
    let later : All (λ net. net < length next) these =
    subst (λ (m : ℕ). All (λ net. net < m) these) (sym (length-set nets n v))
    (All-tail (λ net. net < length nets) n these low) in
    let rest_once : AllPairs (λ a b. a ≢ b) these =
    λ j k d below inside. once (suc j) (suc k) d (omega arith) (omega arith) in
    ap (λ (x : Value). x ∷ values_at (given these values next) these) here
    ∙ ap (λ (xs : Row). v ∷ xs) (given_values these values next (omega arith) rest_once later)

pub all_zero : (n net : ℕ) → value_at (replicate n Zero) net ≡ Zero
all_zero n net = elim (cases_lt net n) [
  | inl inside ↦ get_or-replicate n net Zero Zero inside
  | inr past ↦
      (let long : length (replicate n Zero) ≡ n = length-replicate n Zero in
      get_or_past (replicate n Zero) net Zero (omega (long, past, arith)))
]
