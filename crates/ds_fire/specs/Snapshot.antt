-- What a state keeps, and the states that it shows.
use Rattle.std.specs.Prelude.{◌≡◌, ℕ, ◌+◌, ◌*◌, ◌≤◌, List, [], length, slice_index, slice_index_or}
use Rattle.std.specs.Prelude.{slice_range, Bool, ◌==◌}
use Rattle.std.specs.List.{flat_map}
use Rattle.ds_base.specs.Values.{Row}
use Rattle.ds_marked.specs.Graph.{Graph}
use Rattle.ds_latch.specs.Node.{Split, IsNode, number_of, place_of, nets_of, opening}
use Rattle.ds_latch.specs.declared.node.Node.{Node}
use Rattle.ds_latch.specs.Node.{closing}
use Rattle.ds_latch.specs.Plan.{Planned}
use Rattle.ds_latch.specs.Firing.{State, first_state}

-- the plan and the vectors, a count for each event, the rows of each node, place by place, and what
-- each node has stored, its rows one after the other
pub record Snapshot : Type 0 where
  pub planned : Planned
  pub vectors : List Row
  pub counts : List ℕ
  pub rows : List Row
  pub stored : List Row

-- the split design
abbrev pub split_of : Snapshot → Split
split_of kept = kept.planned.split

-- the controller graph
abbrev pub graph_of : Snapshot → Graph
graph_of kept = kept.planned.graph

-- how often each event may fire
abbrev pub limit_of : Snapshot → ℕ
limit_of kept = length kept.vectors

-- how often an event has fired
abbrev pub count_of : Snapshot → ℕ → ℕ
count_of kept v = slice_index kept.counts v

-- whether a node has opened once more than it has closed
abbrev pub is_open : Snapshot → Node → Bool
is_open kept n = count_of kept (opening n) == count_of kept (closing n) + 1

-- where the row of the node with a number is kept, by its place
abbrev pub row_index : Split → ℕ → ℕ → ℕ
row_index s number place = number * (s.slack + 1) + place

-- the rows that are kept, as those of a node and a place
abbrev pub rows_of : Split → List Row → Node → ℕ → Row
rows_of s rows n place = slice_index_or rows (row_index s (number_of n) place) []

-- the row of a node's last opening
abbrev pub held_row : Snapshot → Node → Row
held_row kept n = rows_of (split_of kept) kept.rows n
    (place_of (split_of kept) (count_of kept (opening n)))

-- what a node has stored, its rows one after the other
abbrev pub stored_values : Snapshot → Node → Row
stored_values kept n = slice_index_or kept.stored (number_of n) []

-- how many values a row of a node has
abbrev pub width_of : Snapshot → Node → ℕ
width_of kept n = length (nets_of (split_of kept) n)

-- the row that a node has stored at a closing, from 0 on
abbrev pub stored_row : Snapshot → Node → ℕ → Row
stored_row kept n k = slice_range (stored_values kept n) (k * width_of kept n)
    (k * width_of kept n + width_of kept n)

-- rows, one after the other
abbrev pub rows_joined : List Row → Row
rows_joined rows = flat_map (λ row. row) rows

-- what is kept shows a state: its counts, its rows at the nodes that are there and at their places,
-- and what they have stored, as many rows as they have closed
pub record Shows (kept : Snapshot) (now : State) : Type 0 where
  pub counts : (v : ℕ) → now.count v ≡ count_of kept v
  pub rows : (n : Node) → IsNode (split_of kept) n → (place : ℕ) → place ≤ (split_of kept).slack
      → now.rows n place ≡ rows_of (split_of kept) kept.rows n place
  pub stored : (n : Node) → IsNode (split_of kept) n
      → rows_joined (now.stored n) ≡ stored_values kept n
  pub many : (n : Node) → IsNode (split_of kept) n
      → length (now.stored n) ≡ count_of kept (closing n)

-- a new state of a plan and vectors: nothing has fired
pub record IsFirst (planned : Planned) (vectors : List Row) (kept : Snapshot) : Type 0 where
  pub planned_is : kept.planned ≡ planned
  pub vectors_are : kept.vectors ≡ vectors
  pub shows : Shows kept (first_state planned.split)
