-- The first of several kinds of fault, the first faulty line, and what was read where there is
-- none.
use Rattle.std.specs.Prelude.{ℕ, Bool, List, [], ◌∷◌, Option, None, Some, if◌then◌else◌}
use Rattle.std.specs.Prelude.{Result, Ok, Err}
use Rattle.ds_base.specs.declared.refusal.Refusal.{Refusal}
use Rattle.ds_base.specs.declared.refusal.Refusal.TheVariants.{Fault, Memory}
use Rattle.ds_lines.specs.declared.at.At.{At}

-- a kind where a test holds
abbrev pub where_true : {K : Type 0} → Bool → K → Option K
where_true test kind = if test then Some kind else None

-- the first of the kinds that hold
abbrev pub first_of : {K : Type 0} → List (Option K) → Option K
first_of [] = None
first_of (None ∷ kinds) = first_of kinds
first_of (Some kind ∷ kinds) = Some kind

-- what was read, unless there is a fault
abbrev pub unless_fault : {F A : Type 0} → Option F → A → Result A F
unless_fault None read = Ok read
unless_fault (Some fault) read = Err fault

-- a fault of the line of this number, else a fault behind it
abbrev pub fault_or : {K : Type 0} → Option K → ℕ → Option (At K) → Option (At K)
fault_or None number rest = rest
fault_or (Some kind) number rest = Some (record { line = number; kind = kind })

-- what comes behind the line of this number, unless the line has a fault
abbrev pub behind_line : {A B K : Type 0} → ℕ → Result A K → (A → Result B (At K))
    → Result B (At K)
behind_line number (Ok read) rest = rest read
behind_line number (Err kind) rest = Err (record { line = number; kind = kind })

-- the refusal of a text for that of its line of this number
abbrev pub refusal_on : {K : Type 0} → ℕ → Refusal K → Refusal (At K)
refusal_on number Memory = Memory
refusal_on number (Fault kind) = Fault (record { line = number; kind = kind })
