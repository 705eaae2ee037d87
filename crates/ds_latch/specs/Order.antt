-- Which node reads which, and the orders that this asks of a controller.
use Rattle.std.specs.Prelude.{ℕ, ◌+◌, ◌<◌, ⊤, length, Contains}
use Rattle.ds_design.specs.Reach.{Reaches}
use Rattle.ds_latch.specs.Node.{Split, IsNode, nets_of, opening}
use Rattle.ds_latch.specs.declared.node.Node.{Node}
use Rattle.ds_latch.specs.declared.node.Node.TheVariants.{In, Out, Master, Slave}
use Rattle.ds_latch.specs.Node.{closing}

-- a net of one node is a net of the other or reaches one
abbrev pub Supplies : Split → Node → Node → Type 0
Supplies s p c = (a b : ℕ) × Contains (nets_of s p) a × Contains (nets_of s c) b
    × Reaches s.circuit a b

-- the nodes that hold what is known before a turn
abbrev pub IsSource : Node → Type 0
IsSource In = ⊤
IsSource Out = ⊥
IsSource (Master i) = ⊥
IsSource (Slave i) = ⊤

-- a producer and a consumer
pub data IsDataEdge (s : Split) : Node → Node → Type 0 where
  to_master : {p : Node} {i : ℕ} → IsSource p → IsNode s p → i < length s.clusters
      → Supplies s p (Master i)
      → IsDataEdge s p (Master i)
  to_out : {p : Node} → IsSource p → IsNode s p → Supplies s p Out → IsDataEdge s p Out
  to_slave : {i : ℕ} → i < length s.clusters → IsDataEdge s (Master i) (Slave i)

-- how many tokens the orders of an edge have. A slave holds its initial value, so its consumers may
-- open once before it
abbrev pub open_tokens : Node → ℕ
open_tokens (Slave i) = 1
open_tokens n = 0

-- a producer may open again once its consumers have closed; with slack, so many openings earlier
abbrev pub close_tokens : Split → Node → ℕ
close_tokens s (Slave i) = s.slack
close_tokens s n = s.slack + 1

-- a required order from one event to another, with its tokens
pub data IsRequired (s : Split) : ℕ → ℕ → ℕ → Type 0 where
  opens_first : (n : Node) → IsNode s n → IsRequired s (opening n) (closing n) 0
  closes_before_next : (n : Node) → IsNode s n → IsRequired s (closing n) (opening n) 1
  after_producer : (p c : Node) → IsDataEdge s p c
      → IsRequired s (opening p) (opening c) (open_tokens p)
  before_reuse : (p c : Node) → IsDataEdge s p c
      → IsRequired s (closing c) (opening p) (close_tokens s p)
