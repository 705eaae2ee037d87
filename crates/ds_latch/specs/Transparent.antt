-- Transparent latches: what the nodes show while an open latch lets its input through.
use Rattle.std.specs.Prelude.{◌≡◌, ℕ, ◌+◌, List, length}
use Rattle.ds_design.specs.Run.{IsRun, row_at}
use Rattle.ds_marked.specs.Graph.{Graph, IsLegal}
use Rattle.ds_latch.specs.Node.{Split, IsNode, opening, closing}
use Rattle.ds_latch.specs.declared.node.Node.{Node}
use Rattle.ds_latch.specs.declared.node.Node.TheVariants.{In, Out, Master, Slave}
use Rattle.ds_latch.specs.Plan.{IsController}
use Rattle.ds_latch.specs.Firing.{State, held, first_state, FiresAll, IsSettled}
use Rattle.ds_base.specs.Values.{Row}

-- a node is open where it has opened once more than it has closed
abbrev pub IsOpen : State → Node → Type 0
IsOpen now n = now.count (opening n) ≡ now.count (closing n) + 1

-- what an open node makes of what the others show: IN shows its vector, a slave what its master
-- shows, the others what settles
abbrev pub Makes : Split → List Row → State → (Node → Row) → Node → Row → Type 0
Makes s vectors now shown In row = row ≡ row_at vectors (now.count (closing In))
Makes s vectors now shown Out row = IsSettled s shown Out row
Makes s vectors now shown (Master i) row = IsSettled s shown (Master i) row
Makes s vectors now shown (Slave i) row = row ≡ shown (Master i)

-- each closed node shows what it holds, and each open one what it makes of what the others show
pub record IsShowing (s : Split) (vectors : List Row) (now : State)
    (shown : Node → Row) : Type 0 where
  pub is_closed : (n : Node) → IsNode s n → now.count (opening n) ≡ now.count (closing n)
      → shown n ≡ held s now n
  pub is_open : (n : Node) → IsNode s n → IsOpen now n → Makes s vectors now shown n (shown n)

-- without slack there is exactly one way to show, and it is what the nodes hold
abbrev pub TransparentLatches : Type 0
TransparentLatches = (s : Split) (g : Graph) → IsController s g → s.slack ≡ 0
    → (vectors : List Row) (state nets : ℕ → Row) → IsRun s.circuit s.initial vectors state nets
    → (events : List ℕ) → IsLegal g (length vectors) events
    → (now : State) → FiresAll s vectors (first_state s) events now
    → IsShowing s vectors now (held s now)
    × ((shown : Node → Row) → IsShowing s vectors now shown → (n : Node) → IsNode s n
    → shown n ≡ held s now n)
