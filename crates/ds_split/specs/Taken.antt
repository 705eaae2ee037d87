-- What a node takes from the values of its producers.
use Rattle.std.specs.Prelude.{◌≡◌, ℕ, suc, ◌-◌, ◌<◌, List, [], length}
use Rattle.ds_base.specs.Values.{Row}
use Rattle.ds_design.specs.Run.{IsRun}
use Rattle.ds_latch.specs.Node.{Split, IsNode}
use Rattle.ds_latch.specs.declared.node.Node.{Node}
use Rattle.ds_latch.specs.Order.{IsDataEdge, open_tokens}
use Rattle.ds_latch.specs.Plan.{IsSplit}
use Rattle.ds_latch.specs.Numbered.{numbered}
use Rattle.ds_latch.specs.Firing.{State, Takes}

-- every node has one row at all its places
abbrev pub showing : (Node → Row) → State
showing shown = record { count = λ _. 0; rows = λ n place. shown n; stored = λ _. [] }

-- what a node takes as it opens, after it has opened so often, where the nodes show these rows;
-- only the rows of its producers matter
abbrev pub TakesFrom : Split → List Row → ℕ → (Node → Row) → Node → Row → Type 0
TakesFrom s vectors opened shown n row = Takes s vectors (showing shown) opened n row

-- every producer of a node shows the value that the orders of their edge fix for the node's next
-- opening: one value before it where the producer is a slave
abbrev pub ShowsProducers : Split → (Node → ℕ → Row) → ℕ → (Node → Row) → Node → Type 0
ShowsProducers s value opened shown n = (p : Node) → IsNode s p → IsDataEdge s p n
    → shown p ≡ value p (suc opened - open_tokens p)

-- in the clocked run, what a node takes from its producers' values is its own next value
abbrev pub TakesNextValue : Type 0
TakesNextValue = (s : Split) → IsSplit s
    → (vectors : List Row) (state nets : ℕ → Row) → IsRun s.circuit s.initial vectors state nets
    → (n : Node) → IsNode s n → (opened : ℕ) → opened < length vectors
    → (shown : Node → Row) → ShowsProducers s (numbered s vectors state nets) opened shown n
    → (row : Row) → TakesFrom s vectors opened shown n row
    → row ≡ numbered s vectors state nets n (suc opened)
