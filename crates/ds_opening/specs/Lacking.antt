-- How many cones lack a table, and the tables and their numbers by that.
use Rattle.std.specs.Prelude.{◌≡◌, ℕ, ◌+◌, ◌<◌, ◌≤◌, ◌==◌, List, length, Contains, count_by, not}
use Rattle.std.specs.Prelude.{slice_index, take}
use Rattle.std.specs.List.{list_any}
use Rattle.std.specs.List.Sorted.{IsNonDecreasingBy, IsPermutation}
use Rattle.ds_settle.specs.Cone.{Parts as Cone}

-- how many cones lack a table
abbrev pub cones_without : List Cone → ℕ → ℕ
cones_without cones k = count_by (λ cone. not (list_any (λ j. j == k) cone.tables)) cones

-- how many cones lack each table
pub record AreLacking (cones : List Cone) (count : ℕ) (counts : List ℕ) : Type 0 where
  pub one_each : length counts ≡ count
  pub each : (k : ℕ) → k < count → slice_index counts k ≡ cones_without cones k

-- so many cones lack each table, if all behind the first n lack it
pub record AreLackingSoFar (cones : List Cone) (n count : ℕ) (counts : List ℕ) : Type 0 where
  pub one_each : length counts ≡ count
  pub each : (k : ℕ) → k < count
      → slice_index counts k + n ≡ cones_without (take n cones) k + length cones

-- one less for these tables
pub record AreTaken (tables old new : List ℕ) : Type 0 where
  pub one_each : length new ≡ length old
  pub these : (k : ℕ) → Contains tables k → slice_index new k + 1 ≡ slice_index old k
  pub others : (k : ℕ) → ¬ Contains tables k → slice_index new k ≡ slice_index old k

-- the same tables, by how many cones lack them
pub record IsByLacking (cones : List Cone) (order sorted : List ℕ) : Type 0 where
  pub permuted : IsPermutation order sorted
  pub rising : IsNonDecreasingBy (cones_without cones) sorted

-- of two tables, the one with the lower number, or the same, is lacked by no more cones
abbrev pub AreByLacking : List Cone → List ℕ → Type 0
AreByLacking cones numbers = (a b : ℕ) → a < length numbers → b < length numbers
    → slice_index numbers a ≤ slice_index numbers b → cones_without cones a ≤ cones_without cones b
