-- What it means that a line, or a list of lines, has no fault.
use Rattle.std.proofs.Common.{◌≡◌, ℕ, Bool, true, false}
use Rattle.std.proofs.Common.{not, List, [], ◌∷◌, Option, None, Some}
use Rattle.std.proofs.Common.{refl, inl, inr, ◌⊎◌, ◌&&◌, ◌||◌}
use Rattle.ds_lines.specs.First.{where_true, first_of, fault_or}
use Rattle.ds_lines.specs.Words.{word_at}
use Rattle.ds_blif.specs.State.{State, own_fault, fault_by}
use Rattle.ds_blif.specs.State.{is_unknown, wants_model}
use Rattle.ds_blif.specs.declared.head.Head.{Head}
use Rattle.ds_blif.specs.declared.fault.BlifKind.{BlifKind}
use Rattle.ds_blif.specs.declared.fault.BlifKind.TheVariants.{Unsupported, NoModel}
use Rattle.ds_lines.specs.declared.at.At.{At}

-- where no kind holds
pub first_none : (kind : Option BlifKind) (kinds : List (Option BlifKind))
    → first_of (kind ∷ kinds) ≡ None → kind ≡ None
first_none None kinds is = refl
first_none (Some kind) kinds is = is

pub rest_none : (kind : Option BlifKind) (kinds : List (Option BlifKind))
    → first_of (kind ∷ kinds) ≡ None → first_of kinds ≡ None
rest_none None kinds is = is
rest_none (Some kind) kinds is = absurd (cc)

pub test_false : (test : Bool) (kind : BlifKind) → where_true test kind ≡ None → test ≡ false
test_false false kind is = refl
test_false true kind is = absurd (cc)

pub third_none : (one two kind : Option BlifKind) → first_of (one ∷ two ∷ kind ∷ []) ≡ None
    → kind ≡ None
third_none one two kind is = first_none kind [] (rest_none two (kind ∷ [])
    (rest_none one (two ∷ kind ∷ []) is))

pub own_none : (head : Head) (state : State) (words : List (List ℕ))
    → fault_by head state words ≡ None → own_fault head state words ≡ None
own_none head state words is = third_none (where_true (is_unknown head)
    (Unsupported (word_at words 0))) (where_true (wants_model head && not state.is_open) NoModel)
    (own_fault head state words) is

-- tests
pub not_false : (a : Bool) → not a ≡ false → a ≡ true
not_false true is = refl
not_false false is = absurd (cc)

pub and_left : (a b : Bool) → (a && b) ≡ true → a ≡ true
and_left true b is = refl
and_left false b is = is

pub and_right : (a b : Bool) → (a && b) ≡ true → b ≡ true
and_right true b is = is
and_right false b is = absurd (cc)

pub or_cases : (a b : Bool) → (a || b) ≡ true → (a ≡ true) ⊎ (b ≡ true)
or_cases true b is = inl refl
or_cases false b is = inr is

pub or_right : (a b : Bool) → (a || b) ≡ false → b ≡ false
or_right true b is = absurd (cc)
or_right false b is = is

-- where no line has a fault
pub line_none : (kind : Option BlifKind) (number : ℕ) (rest : Option (At BlifKind))
    → fault_or kind number rest ≡ None → kind ≡ None
line_none None number rest is = refl
line_none (Some kind) number rest is = absurd (cc)

pub lines_none : (kind : Option BlifKind) (number : ℕ) (rest : Option (At BlifKind))
    → fault_or kind number rest ≡ None → rest ≡ None
lines_none None number rest is = is
lines_none (Some kind) number rest is = absurd (cc)
