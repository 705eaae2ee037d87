-- The nets of the nodes, and the producer of each net.
use Rattle.std.specs.Prelude.{◌≡◌, ℕ, ◌+◌, ◌<◌, List, [], length, Contains, slice_index}
use Rattle.std.specs.Prelude.{slice_index_or}
use Rattle.ds_design.specs.Accepted.{IsAccepted}
use Rattle.ds_design.specs.Circuit.{Circuit}
use Rattle.ds_design.specs.InRange.{IsInRange}
use Rattle.ds_latch.specs.Node.{Split, IsNode, number_of, nodes, nets_of}
use Rattle.ds_latch.specs.declared.node.Node.{Node}
use Rattle.ds_latch.specs.Order.{IsSource}
use Rattle.ds_split.specs.Cluster.{HasEachOnce}
use Rattle.ds_split.specs.Split.{split_into}

-- the nets of each node below a number
abbrev pub HasNetsBelow : Split → ℕ → List (List ℕ) → Type 0
HasNetsBelow s most bits = (length bits ≡ most)
    × ((n : Node) → IsNode s n → number_of n < most
    → slice_index_or bits (number_of n) [] ≡ nets_of s n)

-- the nets of all nodes
abbrev pub HasNets : Split → List (List ℕ) → Type 0
HasNets s bits = HasNetsBelow s (nodes s) bits

-- the node is IN or a slave, and has the net
abbrev pub IsProducer : Split → Node → ℕ → Type 0
IsProducer s p net = IsSource p × IsNode s p × Contains (nets_of s p) net

-- for each net its producer among those below a number: one more than its number, 0 where there is
-- none
pub record AreProducersBelow (s : Split) (most : ℕ) (producers : List ℕ) : Type 0 where
  pub one_each : length producers ≡ length s.circuit.nets
  pub known : (p : Node) (net : ℕ) → IsProducer s p net → number_of p < most
      → slice_index producers net ≡ number_of p + 1
  pub from : (net m : ℕ) → slice_index producers net ≡ m + 1
      → (p : Node) × IsProducer s p net × (number_of p ≡ m) × (m < most)

-- for each net its producer
abbrev pub AreNetProducers : Split → List ℕ → Type 0
AreNetProducers s producers = AreProducersBelow s (nodes s) producers

-- nets that are meant have this mark, and all others are as they were
pub record AreMarked (Means : ℕ → Type 0) (mark : ℕ) (old new : List ℕ) : Type 0 where
  pub same_length : length new ≡ length old
  pub marked : (net : ℕ) → Means net → slice_index new net ≡ mark
  pub others : (net : ℕ) → ¬ Means net → slice_index new net ≡ slice_index old net

-- the nets of the nodes of a circuit that is split into these clusters, which are few
pub record AreNodes (c : Circuit) (clusters nets : List (List ℕ)) : Type 0 where
  pub in_range : IsInRange c
  pub accepted : IsAccepted c
  pub each_once : HasEachOnce (length c.registers) clusters
  pub listed : HasNets (split_into c clusters) nets
  pub few : length clusters < 262144
