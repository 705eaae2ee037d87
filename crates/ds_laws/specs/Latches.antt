-- What the latches keep and have stored.
use Rattle.std.specs.Prelude.{◌≡◌, ℕ, ◌≤◌, List, ◌++◌, length}
use Rattle.ds_base.specs.Values.{Row}
use Rattle.ds_design.specs.Run.{IsRun}
use Rattle.ds_marked.specs.Graph.{Graph, IsLegal, counts_after}
use Rattle.ds_marked.specs.Progress.{HasFiredAll}
use Rattle.ds_latch.specs.Node.{Split, closing}
use Rattle.ds_latch.specs.declared.node.Node.{Node}
use Rattle.ds_latch.specs.Order.{IsDataEdge}
use Rattle.ds_latch.specs.Plan.{IsController, IsPlan}
use Rattle.ds_latch.specs.Firing.{State, FiresAll, first_state, read_rows}
use Rattle.ds_latch.specs.Headline.{AreStored}
use Rattle.ds_latch.specs.Transparent.{IsOpen}

-- what the slaves have stored is there: where every event has fired once a vector, the clocked
-- registers are what is stored, and nothing else is
abbrev pub StoredAreThere : Type 0
StoredAreThere = (s : Split) (g : Graph) → IsPlan s g
    → (vectors : List Row) (state nets : ℕ → Row) → IsRun s.circuit s.initial vectors state nets
    → (events : List ℕ) → IsLegal g (length vectors) events
    → HasFiredAll g (length vectors) (counts_after (λ _. 0) events)
    → (now : State) → FiresAll s vectors (first_state s) events now
    → AreStored s now (length vectors) state
    × ((rows : ℕ → Row) → AreStored s now (length vectors) rows
    → (k : ℕ) → k ≤ length vectors → rows k ≡ state k)

-- what an open node has read of a producer: before this opening it had opened as often as it has
-- closed
abbrev pub row_read : Split → State → Node → Node → Row
row_read s now c p = read_rows s now (now.count (closing c)) p

-- until an open node closes, what it has read of a producer stays
abbrev pub ReadRowsStay : Type 0
ReadRowsStay = (s : Split) (g : Graph) → IsController s g
    → (vectors : List Row) (state nets : ℕ → Row) → IsRun s.circuit s.initial vectors state nets
    → (events more : List ℕ) → IsLegal g (length vectors) (events ++ more)
    → (now later : State) → FiresAll s vectors (first_state s) events now
    → FiresAll s vectors now more later
    → (p c : Node) → IsDataEdge s p c → IsOpen now c
    → later.count (closing c) ≡ now.count (closing c)
    → row_read s later c p ≡ row_read s now c p
