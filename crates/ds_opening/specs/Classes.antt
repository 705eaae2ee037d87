-- Classes of tables: two tables have the same class where the same cones have them.
use Rattle.std.specs.Prelude.{◌≡◌, ◌≢◌, ◌↔◌, ℕ, ◌<◌, ◌≤◌, List, length, All, AllPairs, Contains}
use Rattle.std.specs.Prelude.{slice_index}
use Rattle.ds_settle.specs.Cone.{Parts as Cone}

-- a cone has tables of so many, each once
pub record HasTables (count : ℕ) (cone : Cone) : Type 0 where
  pub within : All (λ k. k < count) cone.tables
  pub once : AllPairs (λ j k. j ≢ k) cone.tables

-- these tables are both among these or neither is
abbrev pub AreBoth : List ℕ → ℕ → ℕ → Type 0
AreBoth tables a b = Contains tables a ↔ Contains tables b

-- the same of these cones have both tables
abbrev pub HaveSame : List Cone → ℕ → ℕ → Type 0
HaveSame cones a b = All (λ cone. AreBoth cone.tables a b) cones

-- a class for each table
pub record AreClasses (cones : List Cone) (count : ℕ) (classes : List ℕ) : Type 0 where
  pub one_each : length classes ≡ count
  pub same : (a b : ℕ) → a < count → b < count
      → (slice_index classes a ≡ slice_index classes b ↔ HaveSame cones a b)

-- two tables have the same class behind the split where they had before, and both or neither are
-- among these
abbrev pub IsSplitBy : List ℕ → List ℕ → List ℕ → Type 0
IsSplitBy tables old new = (a b : ℕ) → a < length old → b < length old
    → (slice_index new a ≡ slice_index new b
    ↔ (slice_index old a ≡ slice_index old b) × AreBoth tables a b)

-- the first classes that have moved, those with a place behind the first, have places of their own
pub record AreMoved (first : ℕ) (moved : List ℕ) : Type 0 where
  pub some : 0 < first
  pub longer : first ≤ length moved
  pub low : All (λ n. n < length moved) moved
  pub distinct : (p q : ℕ) → p < first → q < first → first ≤ slice_index moved p
      → slice_index moved p ≡ slice_index moved q → p ≡ q

-- a class has moved, and what had moved stays
pub record IsMovedTo (first : ℕ) (old : List ℕ) (class to : ℕ) (new : List ℕ) : Type 0 where
  pub are : AreMoved first new
  pub is : to ≡ slice_index new class
  pub moved : first ≤ slice_index new class
  pub stays : (p : ℕ) → p < first → first ≤ slice_index old p
      → slice_index new p ≡ slice_index old p
  pub longer : length old ≤ length new

-- of the tables, these have moved with their classes
pub record AreSplit (first : ℕ) (these old new moved : List ℕ) : Type 0 where
  pub one_each : length new ≡ length old
  pub moves : AreMoved first moved
  pub kept : (k : ℕ) → ¬ Contains these k → slice_index new k ≡ slice_index old k
  pub left : (k : ℕ) → Contains these k
      → (first ≤ slice_index moved (slice_index old k))
      × (slice_index new k ≡ slice_index moved (slice_index old k))
