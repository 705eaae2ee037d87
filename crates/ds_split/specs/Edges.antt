-- The data edges, as far as they are found.
use Rattle.std.specs.Prelude.{◌≡◌, ◌≢◌, ℕ, ◌+◌, ◌*◌, ◌<◌, ◌≤◌, List, length, AllPairs, Contains}
use Rattle.ds_latch.specs.Node.{Split, number_of, nodes}
use Rattle.ds_latch.specs.declared.node.Node.{Node}
use Rattle.ds_latch.specs.Order.{IsDataEdge}
use Rattle.ds_latch.specs.Latches.{HasEdges}
use Rattle.ds_latch.specs.declared.latches.Edge.{Edge}
use Rattle.ds_split.specs.Nets.{AreNetProducers}
use Rattle.ds_split.specs.Search.{Found, IsBefore, edge_of}
use Rattle.ds_split.specs.Split.{IsEdgeOf}

-- the data edges into the nodes below a number, each once
pub record AreEdgesBelow (s : Split) (most : ℕ) (edges : List Edge) : Type 0 where
  pub sound : (e : Edge) → Contains edges e → IsEdgeOf s e
  pub complete : (p c : Node) → IsDataEdge s p c → number_of c < most
      → Contains edges (edge_of (number_of p) (number_of c))
  pub once : AllPairs (λ a b. a ≢ b) edges

-- the search has found the data edges into the nodes below a number
pub record IsFoundBelow (s : Split) (most : ℕ) (f : Found) : Type 0 where
  pub edges : AreEdgesBelow s most f.edges
  pub before : IsBefore most f
  pub producers : AreNetProducers s f.producers
  pub room : length f.seen ≡ nodes s

-- the data edges, each once, and no more required orders than there may be
pub record AreEdges (s : Split) (edges : List Edge) : Type 0 where
  pub has_edges : HasEdges s edges
  pub once : AllPairs (λ a b. a ≢ b) edges
  pub few : 2 * nodes s + 2 * length edges ≤ 1048576
