-- In the expansion of a controller graph both orders of a data edge go by way of its signals.
use Rattle.std.specs.Prelude.{◌≡◌, ℕ, ◌+◌, ◌<◌, List, length, slice_index_or}
use Rattle.ds_marked.specs.Graph.{Graph, IsArc}
use Rattle.ds_marked.specs.declared.marked.Event.{Event}
use Rattle.ds_marked.specs.declared.marked.Kind.TheVariants.{Rise}
use Rattle.ds_latch.specs.Node.{Split, opening, closing}
use Rattle.ds_latch.specs.declared.node.Node.{Node}
use Rattle.ds_latch.specs.Order.{IsDataEdge, open_tokens, close_tokens}
use Rattle.ds_shake.specs.Expansion.{IsExpansion, request_name, acknowledge_name}

-- an order from one event to another goes by way of a third: along two arcs with its tokens
pub record GoesBy (g : Graph) (from by to tokens : ℕ) : Type 0 where
  pub before : ℕ
  pub behind : ℕ
  pub first : IsArc g from by before
  pub second : IsArc g by to behind
  pub sum : before + behind ≡ tokens

-- an event is the rise of the signal with a name
pub record IsRiseOf (g : Graph) (name : List ℕ) (v : ℕ) : Type 0 where
  pub inside : v < length g.events
  pub is : (none : Event) → slice_index_or g.events v none ≡ record { signal = name; kind = Rise }

-- the two orders of a data edge go by way of the rises of its request and of its acknowledge
pub record GoesByHandshake (s : Split) (g : Graph) (p c : Node) : Type 0 where
  pub number : ℕ
  pub request : ℕ
  pub acknowledge : ℕ
  pub is_request : IsRiseOf g (request_name number) request
  pub is_acknowledge : IsRiseOf g (acknowledge_name number) acknowledge
  pub opens : GoesBy g (opening p) request (opening c) (open_tokens p)
  pub frees : GoesBy g (closing c) acknowledge (opening p) (close_tokens s p)

-- so it is for each data edge of an expansion
abbrev pub OrdersGoByHandshakes : Type 0
OrdersGoByHandshakes = (s : Split) (g : Graph) → IsExpansion s g
    → (p c : Node) → IsDataEdge s p c → GoesByHandshake s g p c
