-- The groups of each cone, in the order of their numbers.
use Rattle.std.specs.Prelude.{◌≡◌, ◌≢◌, ◌↔◌, ℕ, ◌<◌, ◌≤◌, List, [], length, All, AllPairs, Any}
use Rattle.std.specs.Prelude.{Contains}
use Rattle.std.specs.Prelude.{slice_index, slice_index_or}
use Rattle.std.specs.List.Sorted.{IsNonDecreasing}
use Rattle.ds_settle.specs.Cone.{Parts as Cone}

-- the numbers of these tables, each once
pub record AreFound (tables numbers list : List ℕ) : Type 0 where
  pub once : AllPairs (λ a b. a ≢ b) list
  pub has : (g : ℕ) → (Contains list g ↔ Any (λ k. slice_index numbers k ≡ g) tables)

-- the same in their order
pub record IsListOf (tables numbers list : List ℕ) : Type 0 where
  pub found : AreFound tables numbers list
  pub rising : IsNonDecreasing list

-- a list for each cone
pub record AreLists (cones : List Cone) (numbers : List ℕ) (lists : List (List ℕ)) : Type 0 where
  pub one_each : length lists ≡ length cones
  pub each : (i : ℕ) (d : Cone) → i < length cones
      → IsListOf (slice_index_or cones i d).tables numbers (slice_index_or lists i [])

-- the numbers of the first tables are found, and those have the stamp
pub record AreFoundSoFar (tables numbers before : List ℕ) (stamp : ℕ) (seen list : List ℕ) : Type 0
  where
    pub found : AreFound tables numbers list
    pub long : length seen ≡ length before
    pub low : All (λ s. s ≤ stamp) seen
    pub stamped : (g : ℕ) → g < length seen → (slice_index seen g ≡ stamp ↔ Contains list g)
