-- What there is for a split design, by the definitions alone.
use Rattle.std.specs.Prelude.{◌≡◌, ◌≢◌, ◌⊎◌, ℕ, ◌≤◌, List, length, AllPairs}
use Rattle.ds_base.specs.Limit.{most_of}
use Rattle.ds_base.specs.declared.number.Limit.TheVariants.{Clusters}
use Rattle.ds_base.specs.declared.number.Mode.{Mode}
use Rattle.ds_marked.specs.Graph.{Graph, IsKept}
use Rattle.ds_design.specs.Accepted.{IsAccepted}
use Rattle.ds_design.specs.Circuit.{Circuit}
use Rattle.ds_design.specs.Groups.{AreDisjoint}
use Rattle.ds_latch.specs.Node.{Split, slackened}
use Rattle.ds_latch.specs.Plan.{split_events}
use Rattle.ds_latch.specs.Latches.{HasEdges}
use Rattle.ds_latch.specs.declared.latches.Edge.{Edge}
use Rattle.ds_split.specs.Cluster.{HasTooManyClusters, IsClustering}
use Rattle.ds_split.specs.Grouped.{IsGroupedClustering}
use Rattle.ds_split.specs.Split.{HasTooManyOrders, split_into}
use Rattle.ds_control.specs.Control.{AreOrders, IsSimple}

-- the data edges of a split design can be listed, each once
abbrev pub EdgesAreListed : Type 0
EdgesAreListed = (s : Split) → IsAccepted s.circuit
    → (edges : List Edge) × HasEdges s edges × AllPairs (λ a b. a ≢ b) edges

-- the registers of a circuit have clusters, by each mode
abbrev pub ClusteringsExist : Type 0
ClusteringsExist = (c : Circuit) (mode : Mode)
    → (clusters : List (List ℕ)) × IsClustering c mode clusters

-- and so they have where disjoint groups take some of them
abbrev pub GroupedClusteringsExist : Type 0
GroupedClusteringsExist = (c : Circuit) (mode : Mode) (groups : List (List ℕ))
    → AreDisjoint (length c.registers) groups
    → (clusters : List (List ℕ)) × IsGroupedClustering c mode groups clusters

-- the clusters of a circuit's registers, which are few enough, and whether the circuit that is
-- split by them asks for too many orders
pub record HasDecidedSplit (c : Circuit) (mode : Mode) : Type 0 where
  pub clusters : List (List ℕ)
  pub are : IsClustering c mode clusters
  pub few : length clusters ≤ most_of Clusters
  pub orders : HasTooManyOrders (split_into c clusters)
      ⊎ (¬ HasTooManyOrders (split_into c clusters))

-- a circuit has too many clusters, or a split design of which it is known whether it asks for too
-- many orders
abbrev pub SplitsAreDecided : Type 0
SplitsAreDecided = (c : Circuit) → IsAccepted c → (mode : Mode)
    → HasTooManyClusters c mode ⊎ HasDecidedSplit c mode

-- a split design has a graph whose events are those of the nodes, and whose arcs are exactly the
-- required orders, in order and none twice
abbrev pub HasController : Split → Type 0
HasController s =
    (g : Graph) × IsKept g × (g.events ≡ split_events s) × AreOrders s g × IsSimple g

-- where it does not ask for too many orders it has that graph, at every slack
abbrev pub ControllersExist : Type 0
ControllersExist = (s : Split) → IsAccepted s.circuit → ¬ HasTooManyOrders s → (slack : ℕ)
    → HasController (slackened s slack)
