-- A circuit split into master and slave latches.
use Rattle.std.specs.Prelude.{◌≡◌, ◌≢◌, ⊤, ℕ, ◌+◌, ◌*◌, ◌<◌, List, length, AllPairs, Contains}
use Rattle.ds_base.specs.Limit.{most_of}
use Rattle.ds_base.specs.declared.number.Limit.TheVariants.{Clusters, Arcs}
use Rattle.ds_base.specs.declared.number.Mode.{Mode}
use Rattle.ds_design.specs.Circuit.{Circuit, initial_row}
use Rattle.ds_latch.specs.Node.{Split, nodes, number_of}
use Rattle.ds_latch.specs.declared.node.Node.{Node}
use Rattle.ds_latch.specs.Order.{IsDataEdge}
use Rattle.ds_latch.specs.declared.latches.Edge.{Edge}
use Rattle.ds_split.specs.Cluster.{HasTooManyClusters}
use Rattle.ds_split.specs.declared.fault.SplitFault.{SplitFault}
use Rattle.ds_split.specs.declared.fault.SplitFault.TheVariants.{TooMany, Memory}

-- a circuit with its registers in these clusters, begun as its registers say, without slack
abbrev pub split_into : Circuit → List (List ℕ) → Split
split_into c clusters = record {
  circuit = c;
  clusters = clusters;
  initial = initial_row c;
  slack = 0;
}

-- an edge is a data edge, by the numbers of its nodes
abbrev pub IsEdgeOf : Split → Edge → Type 0
IsEdgeOf s e =
    (p c : Node) × IsDataEdge s p c
    × (e ≡ record { producer = number_of p; consumer = number_of c })

-- so many data edges, each once, that the required orders, two for each node and two for each data
-- edge, are more than there may be arcs
pub record HasTooManyOrders (s : Split) : Type 0 where
  pub edges : List Edge
  pub data_edges : (e : Edge) → Contains edges e → IsEdgeOf s e
  pub once : AllPairs (λ a b. a ≢ b) edges
  pub many : most_of Arcs < 2 * nodes s + 2 * length edges

-- why a circuit has no clusters
abbrev pub IsClusterFault : Circuit → Mode → SplitFault → Type 0
IsClusterFault c mode (TooMany limit) = (limit ≡ Clusters) × HasTooManyClusters c mode
IsClusterFault c mode Memory = ⊤

-- why a circuit is not split
abbrev pub IsSplitFault : Split → SplitFault → Type 0
IsSplitFault s (TooMany limit) = (limit ≡ Arcs) × HasTooManyOrders s
IsSplitFault s Memory = ⊤
