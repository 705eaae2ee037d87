-- What a table keeps of the values that it reads.
use Rattle.std.proofs.Common.{◌≡◌, ◌≢◌, ℕ, Bool, true, false, List, [], ◌∷◌, refl, ap, map, ◌==◌}
use Rattle.std.specs.Prelude.{All}
use Rattle.std.proofs.lemmas.List.Elements.{All-head, All-tail}
use Rattle.ds_base.specs.Values.{Row, both, either, inverse, Stands}
use Rattle.ds_base.specs.declared.value.Value.{Value}
use Rattle.ds_base.specs.declared.value.Value.TheVariants.{Zero, One, Unknown}
use Rattle.ds_cover.specs.Cover.{Cover, value_at, values_at, agrees, matches, some_match, signed, value_of}
use Rattle.ds_base.proofs.ListLemmas.{map_agree}

-- a table that reads the same values has the same value
pub value_agrees : (cover : Cover) (one other : Row) → All (λ net. value_at one net ≡ value_at other net) cover.inputs → value_of cover one ≡ value_of cover other
value_agrees cover one other same =
    ap (λ values. signed cover.on (some_match cover.rows values)) (map_agree (value_at one) (value_at other) cover.inputs same)

pub zero_known : Zero ≢ Unknown
zero_known e = cc

pub one_known : One ≢ Unknown
one_known e = cc

both-zero : (a : Value) → both a Zero ≡ Zero
both-zero Zero = refl
both-zero One = refl
both-zero Unknown = refl

either-one : (a : Value) → either a One ≡ One
either-one Zero = refl
either-one One = refl
either-one Unknown = refl

pub both_stands : (a b a' b' : Value) → Stands a a' → Stands b b' → Stands (both a b) (both a' b')
both_stands Zero b a' b' left right known = rw (left zero_known) refl
both_stands One b a' b' left right known = rw (left one_known) (right known)
both_stands Unknown Zero a' b' left right known = rw (right zero_known) (both-zero a')
both_stands Unknown One a' b' left right known = absurd (known refl)
both_stands Unknown Unknown a' b' left right known = absurd (known refl)

pub either_stands : (a b a' b' : Value) → Stands a a' → Stands b b' → Stands (either a b) (either a' b')
either_stands One b a' b' left right known = rw (left one_known) refl
either_stands Zero b a' b' left right known = rw (left zero_known) (right known)
either_stands Unknown One a' b' left right known = rw (right one_known) (either-one a')
either_stands Unknown Zero a' b' left right known = absurd (known refl)
either_stands Unknown Unknown a' b' left right known = absurd (known refl)

inverse_stands : (a a' : Value) → Stands a a' → Stands (inverse a) (inverse a')
inverse_stands Zero a' stands known = rw (stands zero_known) refl
inverse_stands One a' stands known = rw (stands one_known) refl
inverse_stands Unknown a' stands known = absurd (known refl)

signed_stands : (on : Bool) (a a' : Value) → Stands a a' → Stands (signed on a) (signed on a')
signed_stands true a a' stands = stands
signed_stands false a a' stands = inverse_stands a a' stands

unknown_taken : (mark : ℕ) (b : Bool) → (mark == 45) ≡ b → (a' : Value) → agrees mark Unknown ≢ Unknown → agrees mark a' ≡ agrees mark Unknown
unknown_taken mark true is Zero known = rw is refl
unknown_taken mark true is One known = rw is refl
unknown_taken mark true is Unknown known = refl
unknown_taken mark false is a' known = absurd (known (rw is refl))

-- a character that takes an unknown value takes every value
agrees_stands : (mark : ℕ) (a a' : Value) → Stands a a' → Stands (agrees mark a) (agrees mark a')
agrees_stands mark Zero a' stands known = ap (agrees mark) (stands zero_known)
agrees_stands mark One a' stands known = ap (agrees mark) (stands one_known)
agrees_stands mark Unknown a' stands known = unknown_taken mark (mark == 45) refl a' known

matches_stands : (marks : List ℕ) (olds news : ℕ → Value) (these : List ℕ) → All (λ net. Stands (olds net) (news net)) these → Stands (matches marks (map olds these)) (matches marks (map news these))
matches_stands [] olds news these stand known = refl
matches_stands (mark ∷ marks) olds news [] stand known = refl
matches_stands (mark ∷ marks) olds news (net ∷ nets) stand known =
    both_stands (agrees mark (olds net)) (matches marks (map olds nets)) (agrees mark (news net)) (matches marks (map news nets))
    (agrees_stands mark (olds net) (news net) (All-head (λ net. Stands (olds net) (news net)) net nets stand))
    (matches_stands marks olds news nets (All-tail (λ net. Stands (olds net) (news net)) net nets stand))
    known

some_match_stands : (rows : List (List ℕ)) (olds news : ℕ → Value) (these : List ℕ) → All (λ net. Stands (olds net) (news net)) these → Stands (some_match rows (map olds these)) (some_match rows (map news these))
some_match_stands [] olds news these stand known = refl
some_match_stands (row ∷ rows) olds news these stand known =
    either_stands (matches row (map olds these)) (some_match rows (map olds these)) (matches row (map news these)) (some_match rows (map news these))
    (matches_stands row olds news these stand) (some_match_stands rows olds news these stand)
    known

pub value_stands : (cover : Cover) (one other : Row) → All (λ net. Stands (value_at one net) (value_at other net)) cover.inputs → Stands (value_of cover one) (value_of cover other)
value_stands cover one other stand =
    signed_stands cover.on (some_match cover.rows (values_at one cover.inputs)) (some_match cover.rows (values_at other cover.inputs))
    (some_match_stands cover.rows (value_at one) (value_at other) cover.inputs stand)
