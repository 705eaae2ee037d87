-- The graphs that are accepted for a split design, whose events stand in any order.
use Rattle.std.specs.Prelude.{◌≡◌, ℕ, ◌<◌, ◌≤◌, Bool, not, ◌&&◌, ◌==◌, List, ◌++◌, length, All}
use Rattle.std.specs.Prelude.{slice_index_or, Contains}
use Rattle.std.specs.List.{filter, list_any}
use Rattle.std.specs.Str.{bytes_eq}
use Rattle.ds_marked.specs.Graph.{Graph, Walk}
use Rattle.ds_marked.specs.declared.marked.Event.{Event}
use Rattle.ds_latch.specs.Node.{Split}
use Rattle.ds_latch.specs.Order.{IsRequired}
use Rattle.ds_latch.specs.Plan.{Planned, Reorders, split_events}
use Rattle.ds_accept.specs.Codes.{sign_of}

-- whether two events are the same: the same signal, and the same kind
abbrev pub is_same_event : Event → Event → Bool
is_same_event one other =
    bytes_eq one.signal other.signal && (sign_of one.kind == sign_of other.kind)

-- the events of a list that do not stand in another one, in their order
abbrev pub others_of : List Event → List Event → List Event
others_of known events = filter (λ event. not (list_any (is_same_event event) known)) events

-- the events of a graph that are no node's, in the order of the graph
abbrev pub extra_events : Split → Graph → List Event
extra_events s g = others_of (split_events s) g.events

-- the event of the design with this number stands at this place of the graph
pub record EventStandsAt (s : Split) (g : Graph) (v place : ℕ) : Type 0 where
  pub number : v < length (split_events s)
  pub inside : place < length g.events
  pub event : (d : Event) → slice_index_or g.events place d ≡ slice_index_or (split_events s) v d

-- the graph gives an order of the design: the tokens along some walk from its source to its target
-- sum to at most its own
pub record GivesOrder (s : Split) (g : Graph) (u v tokens : ℕ) : Type 0 where
  pub from : ℕ
  pub to : ℕ
  pub source : EventStandsAt s g u from
  pub target : EventStandsAt s g v to
  pub sum : ℕ
  pub walk : Walk g from to sum
  pub few : sum ≤ tokens

-- each event of a node is one of the graph
abbrev pub AreThere : Split → Graph → Type 0
AreThere s g = All (Contains g.events) (split_events s)

-- the graph gives each required order
abbrev pub AreGiven : Split → Graph → Type 0
AreGiven s g = (u v tokens : ℕ) → IsRequired s u v tokens → GivesOrder s g u v tokens

-- the events of the nodes are there, each required order is given, and some numbering rises along
-- each arc without tokens; of further events nothing is asked
pub record IsAcceptable (s : Split) (g : Graph) : Type 0 where
  pub there : AreThere s g
  pub given : AreGiven s g
  pub rank : ℕ → ℕ
  pub rises : All (λ arc. arc.tokens ≡ 0 → rank arc.source < rank arc.target) g.arcs

-- a plan has the split design, and the graph with the events of the nodes first, in the order of
-- the nodes, and behind them all others that it has, in the order of the graph
pub record IsPlanOf (s : Split) (g : Graph) (plan : Planned) : Type 0 where
  pub split : plan.split ≡ s
  pub events : plan.graph.events ≡ split_events s ++ extra_events s g
  pub reorders : Reorders g plan.graph
