-- The tables in an order in which each stands behind those of its group that it reads.
use Rattle.std.specs.Prelude.{◌≡◌, ℕ, ◌<◌, true, List, Option, None, Some, length, All, AllPairs}
use Rattle.std.specs.Prelude.{Contains, slice_index, slice_index_or}
use Rattle.ds_design.specs.Circuit.{Circuit}
use Rattle.ds_design.specs.declared.design.Gate.{Gate}
use Rattle.ds_opening.specs.Members.{AreMembers}

-- one table reads what another drives
abbrev pub Reads : Circuit → Gate → ℕ → ℕ → Type 0
Reads c d a b = Contains (slice_index_or c.tables a d).table.inputs
    (slice_index_or c.tables b d).output

-- it does not
abbrev pub ReadsNothingOf : Circuit → ℕ → ℕ → Type 0
ReadsNothingOf c a b = (d : Gate) → ¬ Reads c d a b

-- all tables, of those with one number each behind those that it reads
pub record AreScheduled (c : Circuit) (numbers tables : List ℕ) : Type 0 where
  pub places : All (λ k. k < length c.tables) tables
  pub all : (k : ℕ) → k < length c.tables → Contains tables k
  pub before : AllPairs (λ a b. slice_index numbers a ≡ slice_index numbers b
      → ReadsNothingOf c a b) tables

-- what drives a net has another number than this table, or a lower rank
abbrev pub IsLower : List ℕ → List ℕ → ℕ → Option ℕ → Type 0
IsLower numbers ranks k driver = (j : ℕ) → driver ≡ Some j
    → slice_index numbers j ≡ slice_index numbers k → slice_index ranks j < slice_index ranks k

-- so it is with each net that some tables read
abbrev pub AreLower : List (Option ℕ) → List ℕ → List ℕ → List Gate → Type 0
AreLower drivers numbers ranks gates = (k : ℕ) (d : Gate) → k < length gates
    → All (λ net. IsLower numbers ranks k (slice_index_or drivers net None))
    (slice_index_or gates k d).table.inputs

-- what drives each net is one of so many tables
abbrev pub AreDriversBelow : ℕ → List (Option ℕ) → Type 0
AreDriversBelow count drivers = All (λ driver. (j : ℕ) → driver ≡ Some j → j < count) drivers

-- tables read nets below a number
abbrev pub AreReadWithin : ℕ → List Gate → Type 0
AreReadWithin count gates = All (λ t. All (λ net. net < count) t.table.inputs) gates

-- the tables with each number, each behind those of its number that it reads
pub record AreGroupMembers (c : Circuit) (numbers : List ℕ) (count : ℕ) (lists : List (List ℕ))
    : Type 0 where
  pub order : List ℕ
  pub scheduled : AreScheduled c numbers order
  pub members : AreMembers order numbers count lists
