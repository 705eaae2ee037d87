-- Windows of a plan: each begun with the last row of the one before.
use Rattle.std.specs.Prelude.{◌≡◌, ℕ, suc, ◌+◌, List, ◌++◌, length, map}
use Rattle.std.specs.List.{range_with_len}
use Rattle.ds_marked.specs.Graph.{Graph}
use Rattle.ds_design.specs.Windows.{later}
use Rattle.ds_latch.specs.Node.{Split, begun}
use Rattle.ds_latch.specs.declared.node.Node.{Node}
use Rattle.ds_latch.specs.Plan.{IsPlan, IsController}
use Rattle.ds_latch.specs.Numbered.{numbered}
use Rattle.ds_base.specs.Values.{Row}

-- the numbered values of a later window, from 1 on, are those of the whole run
abbrev pub ValuesInWindows : Type 0
ValuesInWindows = (s : Split) (row : Row) (one two : List Row) (state nets : ℕ → Row) (n : Node)
    (k : ℕ)
    → numbered (begun s row) two (later (length one) state) (later (length one) nets) n (suc k)
    ≡ numbered s (one ++ two) state nets n (length one + suc k)

-- what a node stores in two windows, one after the other, is what it stores in the whole run
abbrev pub StoredInWindows : Type 0
StoredInWindows = (s : Split) (row : Row) (one two : List Row) (state nets : ℕ → Row) (n : Node)
    → map (numbered s one state nets n) (range_with_len 1 (length one))
    ++ map (numbered (begun s row) two (later (length one) state) (later (length one) nets) n)
    (range_with_len 1 (length two))
    ≡ map (numbered s (one ++ two) state nets n) (range_with_len 1 (length one + length two))

-- a graph that is accepted stays accepted, and one that controls goes on to control, where the
-- design is begun with another row
abbrev pub PlanBegins : Type 0
PlanBegins = (s : Split) (g : Graph) (row : Row) → length row ≡ length s.circuit.registers
    → (IsPlan s g → IsPlan (begun s row) g) × (IsController s g → IsController (begun s row) g)
