-- The level of each net, and the order of the tables by level.
use Rattle.std.specs.Prelude.{◌≡◌, ◌≢◌, ℕ, ◌+◌, ◌<◌, ◌≤◌, List, length, map, not, All, AllPairs}
use Rattle.std.specs.Prelude.{Contains, slice_index, slice_index_or, ◌==◌}
use Rattle.std.specs.List.{filter, list_any, range_with_len}
use Rattle.std.specs.List.Sorted.{IsNonDecreasingBy, IsPermutation}
use Rattle.ds_base.specs.Greatest.{greatest}
use Rattle.ds_design.specs.Circuit.{Circuit, control_nets}
use Rattle.ds_design.specs.declared.design.Gate.{Gate}

-- the nets that the tables drive
abbrev pub table_nets : Circuit → List ℕ
table_nets c = map (λ t. t.output) c.tables

-- one level a net: 0 where no table drives it, and for what a table drives one more than the
-- greatest level of the table's inputs, so 1 where it has none
pub record AreLevels (c : Circuit) (levels : List ℕ) : Type 0 where
  pub one_each : length levels ≡ length c.nets
  pub not_driven : (net : ℕ) → ¬ Contains (table_nets c) net → slice_index levels net ≡ 0
  pub driven : All (λ t. slice_index levels t.output
      ≡ greatest (map (slice_index levels) t.table.inputs) + 1) c.tables

-- the greatest level of a net, 0 where there are no nets
pub record IsDepth (c : Circuit) (depth : ℕ) : Type 0 where
  pub levels : List ℕ
  pub are : AreLevels c levels
  pub is : depth ≡ greatest levels

-- the level of what a table drives
abbrev pub level_of_table : List Gate → List ℕ → ℕ → ℕ
level_of_table tables levels k = slice_index levels (slice_index (map (λ t. t.output) tables) k)

-- along the order the level of what the tables drive does not fall
pub record IsByLevel (c : Circuit) (order : List ℕ) : Type 0 where
  pub levels : List ℕ
  pub are : AreLevels c levels
  pub rising : IsNonDecreasingBy (level_of_table c.tables levels) order

-- the same tables, along which the level of what they drive does not fall
pub record IsSortedByLevel (tables : List Gate) (levels places sorted : List ℕ) : Type 0 where
  pub permuted : IsPermutation places sorted
  pub rising : IsNonDecreasingBy (level_of_table tables levels) sorted

-- each table is there once, by the level of what it drives; no table reads what it or a later one
-- drives
pub record IsTableOrder (c : Circuit) (order : List ℕ) : Type 0 where
  pub places : All (λ k. k < length c.tables) order
  pub once : AllPairs (λ j k. j ≢ k) order
  pub all : (k : ℕ) → k < length c.tables → Contains order k
  pub before : (i j : ℕ) (d : Gate) → i ≤ j → j < length order
      → ¬ Contains (slice_index_or c.tables (slice_index order i) d).table.inputs
      (slice_index_or c.tables (slice_index order j) d).output
  pub by_level : IsByLevel c order

-- how many nets are no clock
abbrev pub net_count : Circuit → ℕ
net_count c = length (filter (λ net. not (list_any (λ clock. clock == net) (control_nets c)))
    (range_with_len 0 (length c.nets)))
