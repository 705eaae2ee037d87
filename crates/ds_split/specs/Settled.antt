-- What the cone of a node settles to, over the values of the node's producers.
use Rattle.std.specs.Prelude.{◌≡◌, ⊤, ℕ, suc, ◌-◌, ◌<◌, List, length}
use Rattle.ds_base.specs.Values.{Row}
use Rattle.ds_cover.specs.Cover.{values_at}
use Rattle.ds_design.specs.Run.{IsRun}
use Rattle.ds_latch.specs.Node.{Split, IsNode, nets_of}
use Rattle.ds_latch.specs.declared.node.Node.{Node}
use Rattle.ds_latch.specs.declared.node.Node.TheVariants.{In, Out, Master, Slave}
use Rattle.ds_latch.specs.Order.{IsDataEdge, open_tokens}
use Rattle.ds_latch.specs.Plan.{IsSplit}
use Rattle.ds_latch.specs.Numbered.{numbered}
use Rattle.ds_settle.specs.Cone.{IsCone, IsPartSettled, Parts}

-- the nodes whose opening settles a cone
abbrev pub IsSettling : Node → Type 0
IsSettling In = ⊥
IsSettling Out = ⊤
IsSettling (Master i) = ⊤
IsSettling (Slave i) = ⊥

-- on the nets, each producer of a node has the value that the orders of their edge fix for the
-- node's next opening
abbrev pub IsSupplied : Split → (Node → ℕ → Row) → ℕ → Node → Row → Type 0
IsSupplied s value opened n nets = (p : Node) → IsNode s p → IsDataEdge s p n
    → values_at nets (nets_of s p) ≡ value p (suc opened - open_tokens p)

-- in the clocked run of a split design, what the cone of a node settles to over its producers'
-- values is the node's next value, whatever the other nets had
abbrev pub SettlesNextValue : Type 0
SettlesNextValue = (s : Split) → IsSplit s
    → (vectors : List Row) (state nets : ℕ → Row) → IsRun s.circuit s.initial vectors state nets
    → (n : Node) → IsNode s n → IsSettling n → (opened : ℕ) → opened < length vectors
    → (cone : Parts) → IsCone s.circuit (nets_of s n) cone
    → (old new : Row) → IsSupplied s (numbered s vectors state nets) opened n old
    → IsPartSettled s.circuit cone old new
    → values_at new (nets_of s n) ≡ numbered s vectors state nets n (suc opened)
