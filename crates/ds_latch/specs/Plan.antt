-- The controller graphs that are accepted for a split design.
use Rattle.std.specs.Prelude.{map, slice_index_or, IsPermutation, ◌≡◌, ◌≢◌, ℕ, ◌+◌, ◌<◌, ◌≤◌, List}
use Rattle.std.specs.Prelude.{[], ◌∷◌, ◌++◌, length, codes, decimal, All, AllPairs, Any, Contains}
use Rattle.std.specs.List.{flat_map, range_with_len}
use Rattle.ds_design.specs.Accepted.{IsAccepted}
use Rattle.ds_marked.specs.Graph.{Graph, Agrees, Walk, IsLive}
use Rattle.ds_latch.specs.Node.{Split}
use Rattle.ds_latch.specs.declared.node.Node.{Node}
use Rattle.ds_latch.specs.declared.node.Node.TheVariants.{In, Out, Master, Slave}
use Rattle.ds_latch.specs.Order.{IsRequired}
use Rattle.ds_marked.specs.declared.marked.Event.{Event}
use Rattle.ds_marked.specs.declared.marked.Kind.TheVariants.{Rise, Fall}

-- the name of a node in a graph
abbrev pub node_name : Node → List ℕ
node_name In = codes "IN"
node_name Out = codes "OUT"
node_name (Master i) = codes "M" ++ decimal i
node_name (Slave i) = codes "S" ++ decimal i

-- both events of a node
abbrev pub node_events : Node → List Event
node_events n = record { signal = node_name n; kind = Rise }
    ∷ record { signal = node_name n; kind = Fall } ∷ []

-- the events of all nodes, in order
abbrev pub split_events : Split → List Event
split_events s =
    node_events In ++ node_events Out
    ++ flat_map (λ i. node_events (Master i) ++ node_events (Slave i))
    (range_with_len 0 (length s.clusters))

-- every register stands in one cluster
pub record IsSplit (s : Split) : Type 0 where
  pub accepted : IsAccepted s.circuit
  pub covered : (r : ℕ) → r < length s.circuit.registers
      → Any (λ registers. Contains registers r) s.clusters
  pub within : All (λ registers. All (λ r. r < length s.circuit.registers) registers) s.clusters
  pub once : AllPairs (λ a b. a ≢ b) (flat_map (λ registers. registers) s.clusters)
  pub one_value_each : length s.initial ≡ length s.circuit.registers

-- the graph has the events of the nodes and then extra ones, nothing in it waits for itself, and
-- for each required order some walk has at most its tokens
pub record IsPlan (s : Split) (g : Graph) : Type 0 where
  pub split : IsSplit s
  pub extra : List Event
  pub events : g.events ≡ split_events s ++ extra
  pub live : IsLive g
  pub orders : (u v tokens : ℕ) → IsRequired s u v tokens
      → (sum : ℕ) × Walk g u v sum × (sum ≤ tokens)

-- a graph controls a split design: nothing in it waits for itself, and counts that agree with it
-- meet each required order
pub record IsController (s : Split) (g : Graph) : Type 0 where
  pub split : IsSplit s
  pub live : IsLive g
  pub meets : (count : ℕ → ℕ) → All (Agrees count) g.arcs
      → (u v tokens : ℕ) → IsRequired s u v tokens → count v ≤ count u + tokens

-- a split design and a graph for it
pub record Planned : Type 0 where
  pub split : Split
  pub graph : Graph

-- the same graph with its events at other places
pub record Reorders (from to : Graph) : Type 0 where
  pub place : ℕ → ℕ
  pub as_many : length to.events ≡ length from.events
  pub events : (v : ℕ) (d : Event) → v < length from.events
      → (place v < length to.events)
      × (slice_index_or to.events (place v) d ≡ slice_index_or from.events v d)
  pub arcs : IsPermutation (map
      (λ arc. record { source = place arc.source; target = place arc.target; tokens = arc.tokens })
      from.arcs) to.arcs
