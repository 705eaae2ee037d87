-- The part of a circuit that some nets depend on.
use Rattle.std.specs.Prelude.{◌≡◌, ◌≢◌, ◌↔◌, ℕ, ◌<◌, ◌≤◌, List, length, map, All, AllPairs, Any}
use Rattle.std.specs.Prelude.{Contains, slice_index, slice_index_or}
use Rattle.ds_base.specs.Values.{Row}
use Rattle.ds_cover.specs.Cover.{value_at, value_of}
use Rattle.ds_design.specs.Circuit.{Circuit}
use Rattle.ds_design.specs.Levels.{IsByLevel, table_nets}
use Rattle.ds_design.specs.Reach.{Reaches}
use Rattle.ds_design.specs.declared.design.Gate.{Gate}
use Rattle.ds_settle.specs.Settle.{LeavesOthers}

-- a net is one of these or reaches one
abbrev pub ReachesSome : Circuit → List ℕ → ℕ → Type 0
ReachesSome c these net = Any (Reaches c net) these

-- the parts of a cone: the numbers of its tables, and its sources
pub record Parts : Type 0 where
  pub tables : List ℕ
  pub sources : List ℕ

-- the net that a table drives
abbrev pub net_of : Circuit → ℕ → ℕ
net_of c k = slice_index (table_nets c) k

-- the nets that some tables drive
abbrev pub nets_of_tables : Circuit → List ℕ → List ℕ
nets_of_tables c tables = map (net_of c) tables

-- tables that can be evaluated one after the other: none reads what it or a later one drives
pub record AreInOrder (c : Circuit) (tables : List ℕ) : Type 0 where
  pub within : All (λ k. k < length c.tables) tables
  pub before : (i j : ℕ) (d : Gate) → i ≤ j → j < length tables
      → ¬ Contains (slice_index_or c.tables (slice_index tables i) d).table.inputs
      (slice_index_or c.tables (slice_index tables j) d).output

-- the tables are those whose nets reach these, each once and in order by level, and the sources are
-- the nets that reach them and that no table drives, each once
pub record IsCone (c : Circuit) (these : List ℕ) (cone : Parts) : Type 0 where
  pub order : AreInOrder c cone.tables
  pub by_level : IsByLevel c cone.tables
  pub once : AllPairs (λ j k. j ≢ k) cone.tables
  pub tables : (k : ℕ) → k < length c.tables
      → (Contains cone.tables k ↔ ReachesSome c these (net_of c k))
  pub sources : (net : ℕ) → Contains cone.sources net
      ↔ (ReachesSome c these net × ¬ Contains (table_nets c) net)
  pub sources_within : All (λ net. net < length c.nets) cone.sources
  pub sources_once : AllPairs (λ a b. a ≢ b) cone.sources

-- each table of the cone has its value on the nets, and all nets that these tables do not drive are
-- as they were
pub record IsPartSettled (c : Circuit) (cone : Parts) (old new : Row) : Type 0 where
  pub same_length : length new ≡ length old
  pub settled : (k : ℕ) (d : Gate) → Contains cone.tables k
      → let t = slice_index_or c.tables k d in value_at new t.output ≡ value_of t.table new
  pub others : LeavesOthers (nets_of_tables c cone.tables) old new
