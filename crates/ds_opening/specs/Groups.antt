-- Groups of tables, and cones as lists of groups.
use Rattle.std.specs.Prelude.{◌≡◌, ◌≢◌, ◌↔◌, ℕ, ◌<◌, List, [], length, All, AllPairs, Contains}
use Rattle.std.specs.Prelude.{slice_index_or}
use Rattle.std.specs.List.{flat_map}
use Rattle.ds_cover.specs.Bank.{Driven}
use Rattle.ds_design.specs.Banked.{IsBankOf}
use Rattle.ds_design.specs.Circuit.{Circuit}
use Rattle.ds_settle.specs.Cone.{AreInOrder, Parts as Cone}

-- the packed tables, the numbers of those of each group, the numbers of each cone's groups, and the
-- slots that each group reads
pub record Grouping : Type 0 where
  pub bank : List Driven
  pub groups : List (List ℕ)
  pub lists : List (List ℕ)
  pub reads : List (List ℕ)

-- the tables of a group
abbrev pub group_of : Grouping → ℕ → List ℕ
group_of g a = slice_index_or g.groups a []

-- the tables of the groups with these numbers, one group after another
abbrev pub tables_in : Grouping → List ℕ → List ℕ
tables_in g list = flat_map (group_of g) list

-- the groups of a cone are there, each once, and their tables, one group after another, are those
-- of the cone and in order
pub record IsGrouped (c : Circuit) (g : Grouping) (cone : Cone) (list : List ℕ) : Type 0 where
  pub within : All (λ a. a < length g.groups) list
  pub once : AllPairs (λ a b. a ≢ b) list
  pub order : AreInOrder c (tables_in g list)
  pub same : (k : ℕ) → (Contains (tables_in g list) k ↔ Contains cone.tables k)

-- each cone is grouped, and no table is in two groups
pub record AreGroupsOf (c : Circuit) (cones : List Cone) (g : Grouping) : Type 0 where
  pub packed : IsBankOf c.tables g.bank
  pub one_each : length g.lists ≡ length cones
  pub each : (i : ℕ) (d : Cone) → i < length cones
      → IsGrouped c g (slice_index_or cones i d) (slice_index_or g.lists i [])
  pub within : (a : ℕ) → All (λ k. k < length c.tables) (group_of g a)
  pub distinct : (a b k : ℕ) → Contains (group_of g a) k → Contains (group_of g b) k → a ≡ b
