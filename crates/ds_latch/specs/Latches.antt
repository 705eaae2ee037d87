-- The parts that a split design keeps.
use Rattle.std.specs.Prelude.{◌≡◌, ◌≢◌, ◌↔◌, ℕ, ◌+◌, ◌*◌, ◌≤◌, List, [], length, Any, AllPairs}
use Rattle.std.specs.Prelude.{slice_index_or}
use Rattle.ds_latch.specs.Node.{Split, IsNode, number_of, nodes, nets_of}
use Rattle.ds_latch.specs.declared.node.Node.{Node}
use Rattle.ds_latch.specs.Order.{IsDataEdge}
use Rattle.ds_latch.specs.Plan.{IsSplit}
use Rattle.ds_latch.specs.declared.latches.Edge.{Edge}

-- these are the data edges, each by the numbers of its nodes
abbrev pub HasEdges : Split → List Edge → Type 0
HasEdges s edges = (p c : Node) → IsDataEdge s p c
    ↔ Any (λ e. (e.producer ≡ number_of p) × (e.consumer ≡ number_of c)) edges

-- the nets of each node, the data edges, each once, no more required orders than a graph may have
-- arcs, and a slack that is not above 15
pub record AreParts (s : Split) (bits : List (List ℕ)) (edges : List Edge) : Type 0 where
  pub split : IsSplit s
  pub one_each : length bits ≡ nodes s
  pub nets : (n : Node) → IsNode s n → slice_index_or bits (number_of n) [] ≡ nets_of s n
  pub has_edges : HasEdges s edges
  pub once : AllPairs (λ a b. a ≢ b) edges
  pub few : 2 * nodes s + 2 * length edges ≤ 1048576
  pub low : s.slack ≤ 15
