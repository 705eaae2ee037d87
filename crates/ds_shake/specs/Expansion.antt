-- The four-phase expansion of the graph of the required orders.
use Rattle.std.specs.Prelude.{◌≡◌, ℕ, ◌+◌, ◌-◌, ◌*◌, ◌<◌, ◌≤◌, ⊤, List, [], ◌∷◌, ◌++◌, length}
use Rattle.std.specs.Prelude.{codes, decimal, IsPermutation}
use Rattle.std.specs.List.{flat_map}
use Rattle.ds_base.specs.declared.number.Limit.{Limit}
use Rattle.ds_base.specs.declared.number.Limit.TheVariants as limit
use Rattle.ds_marked.specs.Graph.{Graph}
use Rattle.ds_marked.specs.declared.marked.Arc.{Arc}
use Rattle.ds_marked.specs.declared.marked.Event.{Event}
use Rattle.ds_marked.specs.declared.marked.Kind.TheVariants.{Rise, Fall}
use Rattle.ds_latch.specs.Node.{Split, nodes}
use Rattle.ds_latch.specs.Plan.{split_events}
use Rattle.ds_control.specs.Orders.{node_arcs, tokens_after}
use Rattle.ds_shake.specs.Handshakes.{AreHandshakes}
use Rattle.ds_shake.specs.declared.handshake.Handshake.{Handshake}
use Rattle.ds_shake.specs.declared.fault.ShakeFault.{ShakeFault}
use Rattle.ds_shake.specs.declared.fault.ShakeFault.TheVariants.{TooMany, Memory}

-- the name of the request with a number
abbrev pub request_name : ℕ → List ℕ
request_name j = codes "r" ++ decimal j

-- and of the acknowledge
abbrev pub acknowledge_name : ℕ → List ℕ
acknowledge_name j = codes "a" ++ decimal j

-- the four events of an edge: its request rises and falls, its acknowledge rises and falls
abbrev pub handshake_events : Handshake → List Event
handshake_events h = record { signal = request_name h.number; kind = Rise }
    ∷ record { signal = request_name h.number; kind = Fall }
    ∷ record { signal = acknowledge_name h.number; kind = Rise }
    ∷ record { signal = acknowledge_name h.number; kind = Fall } ∷ []

-- the number of the first of these four, behind the events of so many nodes
abbrev pub request_rises : ℕ → Handshake → ℕ
request_rises count h = 2 * count + 4 * h.number

-- of the second
abbrev pub request_falls : ℕ → Handshake → ℕ
request_falls count h = 2 * count + 4 * h.number + 1

-- of the third
abbrev pub acknowledge_rises : ℕ → Handshake → ℕ
acknowledge_rises count h = 2 * count + 4 * h.number + 2

-- of the fourth
abbrev pub acknowledge_falls : ℕ → Handshake → ℕ
acknowledge_falls count h = 2 * count + 4 * h.number + 3

-- the tokens with which the producer opens again after the consumer has closed
abbrev pub freeing_tokens : ℕ → Handshake → ℕ
freeing_tokens slack h = slack + 1 - tokens_after h.producer

-- an arc by its parts
abbrev pub arc_by_parts : ℕ → ℕ → ℕ → Arc
arc_by_parts source target tokens = record { source = source; target = target; tokens = tokens }

-- the arcs that carry the two orders of an edge, by its request and by its acknowledge
abbrev pub order_arcs : ℕ → ℕ → Handshake → List Arc
order_arcs count slack h = arc_by_parts (2 * h.producer) (request_rises count h) 0
    ∷ arc_by_parts (request_rises count h) (2 * h.consumer) (tokens_after h.producer)
    ∷ arc_by_parts (2 * h.consumer + 1) (acknowledge_rises count h) 0
    ∷ arc_by_parts (acknowledge_rises count h) (2 * h.producer) (freeing_tokens slack h) ∷ []

-- the arcs that bring the request and the acknowledge back: four phases
abbrev pub return_arcs : ℕ → ℕ → Handshake → List Arc
return_arcs count slack h = arc_by_parts (acknowledge_rises count h) (request_falls count h) 0
    ∷ arc_by_parts (request_falls count h) (acknowledge_falls count h) 0
    ∷ arc_by_parts (acknowledge_falls count h) (request_rises count h) (freeing_tokens slack h)
    ∷ arc_by_parts (acknowledge_falls count h) (acknowledge_rises count h) 1 ∷ []

-- all arcs of an edge
abbrev pub handshake_arcs : ℕ → ℕ → Handshake → List Arc
handshake_arcs count slack h = order_arcs count slack h ++ return_arcs count slack h

-- the events of the nodes, and then of the edges
abbrev pub expanded_events : Split → List Handshake → List Event
expanded_events s all = split_events s ++ flat_map handshake_events all

-- the arcs of the nodes, and of the edges
abbrev pub expanded_arcs : Split → List Handshake → List Arc
expanded_arcs s all = node_arcs (nodes s) ++ flat_map (handshake_arcs (nodes s) s.slack) all

-- the graph has these events and arcs, and no more signals than a graph may have
pub record IsExpansion (s : Split) (g : Graph) : Type 0 where
  pub handshakes : List Handshake
  pub are : AreHandshakes s handshakes
  pub few : nodes s + 2 * length handshakes ≤ 65536
  pub events : g.events ≡ expanded_events s handshakes
  pub arcs : IsPermutation (expanded_arcs s handshakes) g.arcs

-- a node, a request and an acknowledge are a signal each, and there are more than a graph may have
pub record HasTooManySignals (s : Split) : Type 0 where
  pub handshakes : List Handshake
  pub are : AreHandshakes s handshakes
  pub many : 65536 < nodes s + 2 * length handshakes

-- there are no more signals than that, but more arcs than a graph may have; the laws say that this
-- never is
pub record HasTooManyArcs (s : Split) : Type 0 where
  pub handshakes : List Handshake
  pub are : AreHandshakes s handshakes
  pub few : nodes s + 2 * length handshakes ≤ 65536
  pub many : 1048576 < 2 * nodes s + 8 * length handshakes

-- what there is too much of
abbrev pub HasTooMany : Split → Limit → Type 0
HasTooMany s limit.Signals = HasTooManySignals s
HasTooMany s limit.Arcs = HasTooManyArcs s
HasTooMany s which = ⊥

-- the fault is what the design shows
abbrev pub IsShakeFault : Split → ShakeFault → Type 0
IsShakeFault s (TooMany which) = HasTooMany s which
IsShakeFault s Memory = ⊤
