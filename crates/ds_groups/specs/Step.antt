-- What the answers for one word and for one line say.
use Rattle.std.specs.Prelude.{◌≡◌, ℕ, Bool, true, false, List, Result, Ok, Err}
use Rattle.ds_base.specs.declared.refusal.Refusal.{Refusal}
use Rattle.ds_base.specs.declared.refusal.Refusal.TheVariants.{Memory, Fault}
use Rattle.ds_groups.specs.declared.fault.GroupKind.{GroupKind}
use Rattle.ds_groups.specs.declared.fault.GroupKind.TheVariants.{UnknownRegister, RepeatedRegister}
use Rattle.ds_groups.specs.declared.taking.Taking.{Taking}

-- the registers are held as they are to be, or this is what is wrong
abbrev pub IsHeld : Result (List ℕ) GroupKind → List ℕ → Result (Unit {0}) (Refusal GroupKind)
    → Type 0
IsHeld meant new (Ok done) = meant ≡ Ok new
IsHeld meant new (Err Memory) = Unit {0}
IsHeld meant new (Err (Fault kind)) = meant ≡ Err kind

-- what is wrong with a word that takes nothing
abbrev pub kind_of_word : Bool → List ℕ → GroupKind
kind_of_word true word = RepeatedRegister word
kind_of_word false word = UnknownRegister word

-- the answer for a word: a fault where it took no register
abbrev pub IsWordTold : List ℕ → Taking → Result (Unit {0}) (Refusal GroupKind) → Type 0
IsWordTold word told (Ok done) = told.took ≡ true
IsWordTold word told (Err Memory) = Unit {0}
IsWordTold word told (Err (Fault kind)) =
    (told.took ≡ false) × (kind ≡ kind_of_word told.known word)
