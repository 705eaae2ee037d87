-- Groups of registers.
use Rattle.std.specs.Prelude.{◌≡◌, ℕ, ◌<◌, List, [], length, AllPairs, Contains, slice_index_or}

-- the registers of the group at a place, none behind the last
abbrev pub group_at : List (List ℕ) → ℕ → List ℕ
group_at groups i = slice_index_or groups i []

-- groups of some of so many registers: none is empty, the registers of each rise, and no register
-- stands in two
pub record AreDisjoint (count : ℕ) (groups : List (List ℕ)) : Type 0 where
  pub within : (i r : ℕ) → Contains (group_at groups i) r → r < count
  pub some : (i : ℕ) → i < length groups → 0 < length (group_at groups i)
  pub rising : (i : ℕ) → AllPairs (λ a b. a < b) (group_at groups i)
  pub once : (i j r : ℕ) → Contains (group_at groups i) r → Contains (group_at groups j) r → i ≡ j
