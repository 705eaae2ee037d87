-- The required orders as a list: two of each node, and two of each data edge.
use Rattle.std.specs.Prelude.{◌≡◌, ◌≢◌, ◌≤◌, ℕ, ◌+◌, ◌-◌, ◌*◌, ◌%◌, AllPairs, length, List, [], ◌∷◌}
use Rattle.std.specs.Prelude.{◌++◌, ltb, if◌then◌else◌}
use Rattle.std.specs.List.{flat_map, range_with_len}
use Rattle.ds_marked.specs.declared.marked.Arc.{Arc}
use Rattle.ds_marked.specs.declared.marked.Event.{Event}
use Rattle.ds_marked.specs.declared.marked.Kind.TheVariants.{Rise, Fall}
use Rattle.ds_latch.specs.Node.{Split, nodes}
use Rattle.ds_latch.specs.declared.node.Node.TheVariants.{Master, Slave}
use Rattle.ds_latch.specs.Latches.{HasEdges}
use Rattle.ds_latch.specs.Plan.{node_events}
use Rattle.ds_latch.specs.declared.latches.Edge.{Edge}

-- a node closes after it opened
abbrev pub closing_arc : ℕ → Arc
closing_arc n = record { source = 2 * n; target = 2 * n + 1; tokens = 0 }

-- and opens again after it closed
abbrev pub opening_arc : ℕ → Arc
opening_arc n = record { source = 2 * n + 1; target = 2 * n; tokens = 1 }

-- the tokens with which a consumer opens after a producer, by its number: one where it is a slave,
-- which has an odd number above that of OUT
abbrev pub tokens_after : ℕ → ℕ
tokens_after producer = if ltb 2 producer then producer % 2 else 0

-- a consumer opens after its producer opened
abbrev pub reading_arc : Edge → Arc
reading_arc e = record {
  source = 2 * e.producer;
  target = 2 * e.consumer;
  tokens = tokens_after e.producer;
}

-- and the producer opens again after its consumer closed
abbrev pub freeing_arc : ℕ → Edge → Arc
freeing_arc slack e = record {
  source = 2 * e.consumer + 1;
  target = 2 * e.producer;
  tokens = slack + 1 - tokens_after e.producer;
}

-- the orders of so many nodes
abbrev pub node_arcs : ℕ → List Arc
node_arcs count = flat_map (λ n. closing_arc n ∷ opening_arc n ∷ []) (range_with_len 0 count)

-- the orders of data edges
abbrev pub edge_arcs : ℕ → List Edge → List Arc
edge_arcs slack edges = flat_map (λ e. reading_arc e ∷ freeing_arc slack e ∷ []) edges

-- all of them
abbrev pub required_arcs : Split → List Edge → List Arc
required_arcs s edges = node_arcs (nodes s) ++ edge_arcs s.slack edges

-- both events of a signal
abbrev pub signal_events : List ℕ → List Event
signal_events name = record { signal = name; kind = Rise }
    ∷ record { signal = name; kind = Fall } ∷ []

-- the events of the nodes of so many clusters
abbrev pub cluster_events : ℕ → List Event
cluster_events count = flat_map (λ i. node_events (Master i) ++ node_events (Slave i))
    (range_with_len 0 count)

-- the arcs are all of them, for the data edges in some order, each once
pub record AreListed (s : Split) (arcs : List Arc) : Type 0 where
  pub edges : List Edge
  pub has_edges : HasEdges s edges
  pub once : AllPairs (λ a b. a ≢ b) edges
  pub few : 2 * nodes s + 2 * length edges ≤ 1048576
  pub is : arcs ≡ required_arcs s edges
