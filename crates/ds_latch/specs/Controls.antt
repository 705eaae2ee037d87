-- What a controller graph keeps apart.
use Rattle.std.specs.Prelude.{◌≡◌, ◌≢◌, ℕ, ◌+◌, ◌*◌, ◌<◌, ◌↔◌, List, map, ltb}
use Rattle.std.specs.List.{filter}
use Rattle.ds_marked.specs.Graph.{Graph, IsEnabled, IsKept, IsLegal, IsConsistent, IsArc}
use Rattle.ds_latch.specs.Node.{Split, nodes, opening, closing, place_of}
use Rattle.ds_latch.specs.declared.node.Node.{Node}
use Rattle.ds_latch.specs.Order.{IsDataEdge, IsRequired}
use Rattle.ds_latch.specs.Firing.{opening_read}
use Rattle.ds_latch.specs.Plan.{split_events, IsSplit, IsPlan, IsController, Reorders}

-- an accepted graph controls its design
abbrev pub AcceptedControls : Type 0
AcceptedControls = (s : Split) (g : Graph) → IsPlan s g → IsController s g

-- while a consumer is open, a producer of it that may open writes another place than the one that
-- the consumer read
abbrev pub Stability : Type 0
Stability = (s : Split) (g : Graph) → IsController s g → (limit : ℕ) (count : ℕ → ℕ)
    → IsConsistent g limit count
    → (p c : Node) → IsDataEdge s p c → count (opening c) ≡ count (closing c) + 1
    → IsEnabled g limit count (opening p)
    → place_of s (count (opening p) + 1) ≢ place_of s (opening_read p (count (closing c)))

-- so without slack no producer of an open consumer may open
abbrev pub StabilityWithoutSlack : Type 0
StabilityWithoutSlack = (s : Split) (g : Graph) → IsController s g → s.slack ≡ 0
    → (limit : ℕ) (count : ℕ → ℕ) → IsConsistent g limit count
    → (p c : Node) → IsDataEdge s p c → count (opening c) ≡ count (closing c) + 1
    → ¬ IsEnabled g limit count (opening p)

-- some numbering rises along each required order without tokens, so the required orders alone are
-- accepted
abbrev pub RequiredOrdersRise : Type 0
RequiredOrdersRise = (s : Split) → (rank : ℕ → ℕ)
    × ((u v : ℕ) → IsRequired s u v 0 → rank u < rank v)

-- a graph of the events of the nodes, whose arcs are exactly the required orders, is accepted
abbrev pub OrdersAreAccepted : Type 0
OrdersAreAccepted = (s : Split) (g : Graph) → IsSplit s → g.events ≡ split_events s
    → ((u v tokens : ℕ) → IsRequired s u v tokens ↔ IsArc g u v tokens) → IsPlan s g

-- the firings of a list that are of nodes: the events of the nodes come before all others
abbrev pub node_firings : Split → List ℕ → List ℕ
node_firings s events = filter (λ v. ltb v (2 * nodes s)) events

-- an accepted graph lets nothing fire that the required orders do not: of each of its legal lists,
-- the firings of the nodes are a legal list of the graph whose arcs are exactly the required orders
abbrev pub NothingNewFires : Type 0
NothingNewFires = (s : Split) (g orders : Graph) → IsPlan s g → orders.events ≡ split_events s
    → ((u v tokens : ℕ) → IsRequired s u v tokens ↔ IsArc orders u v tokens)
    → (limit : ℕ) (events : List ℕ) → IsLegal g limit events
    → IsLegal orders limit (node_firings s events)

-- a legal list of a graph is one of the same graph with its events at other places, by their
-- numbers there: so is one of the graph of a file a list of its plan
abbrev pub ReorderedIsLegal : Type 0
ReorderedIsLegal = (from to : Graph) → IsKept from → (reorders : Reorders from to)
    → (limit : ℕ) (events : List ℕ) → IsLegal from limit events
    → IsLegal to limit (map reorders.place events)
