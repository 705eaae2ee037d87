-- What open latches show, as it stands behind the text of a log.
use Rattle.std.specs.Prelude.{◌≡◌, ℕ, ◌+◌, ◌<◌, true, List, [], ◌++◌, length, ◌==◌}
use Rattle.std.specs.Prelude.{if◌then◌else◌, slice_index_or}
use Rattle.std.specs.List.{flat_map, range_with_len}
use Rattle.ds_base.specs.Values.{Row}
use Rattle.ds_latch.specs.Node.{IsNode, number_of, nodes}
use Rattle.ds_latch.specs.declared.node.Node.{Node}
use Rattle.ds_latch.specs.declared.node.Node.TheVariants.{In, Out, Master, Slave}
use Rattle.ds_latch.specs.Node.{opening, closing}
use Rattle.ds_rows.specs.Log.{open_text}
use Rattle.ds_fire.specs.Snapshot.{Snapshot, split_of, held_row, is_open}

-- the line of a node that has opened once more than it has closed, with what it shows; else nothing
abbrev pub open_line_of : (ℕ → ℕ) → (Node → Row) → Node → List ℕ
open_line_of count shown n =
    if count (opening n) == count (closing n) + 1 then open_text n (shown n) else []

-- so of both nodes of a cluster
abbrev pub open_pair : (ℕ → ℕ) → (Node → Row) → ℕ → List ℕ
open_pair count shown i = open_line_of count shown (Master i) ++ open_line_of count shown (Slave i)

-- the lines of the open nodes, where there are so many clusters, in the order of the nodes
abbrev pub open_lines : (ℕ → ℕ) → (Node → Row) → ℕ → List ℕ
open_lines count shown clusters = open_line_of count shown In ++ open_line_of count shown Out
    ++ flat_map (open_pair count shown) (range_with_len 0 clusters)

-- a row is what the node with this number holds, where that is open
abbrev pub IsShownAt : Snapshot → ℕ → Row → Type 0
IsShownAt kept number row = (n : Node) → IsNode (split_of kept) n → number_of n ≡ number
    → is_open kept n ≡ true → row ≡ held_row kept n

-- a row for each node; of an open one, what it holds
pub record AreShown (kept : Snapshot) (rows : List Row) : Type 0 where
  pub one_each : length rows ≡ nodes (split_of kept)
  pub each : (k : ℕ) → k < length rows → IsShownAt kept k (slice_index_or rows k [])
