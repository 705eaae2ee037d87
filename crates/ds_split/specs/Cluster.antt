-- Registers in clusters.
use Rattle.std.specs.Prelude.{◌≡◌, ◌≢◌, ◌↔◌, ⊤, ℕ, ◌<◌, List, [], length, All, AllPairs, Any}
use Rattle.std.specs.Prelude.{Contains, slice_index, slice_index_or}
use Rattle.std.specs.List.{flat_map}
use Rattle.ds_base.specs.Limit.{most_of}
use Rattle.ds_base.specs.declared.number.Limit.TheVariants.{Clusters}
use Rattle.ds_base.specs.declared.number.Mode.{Mode}
use Rattle.ds_base.specs.declared.number.Mode.TheVariants.{Each, One, Bus}
use Rattle.ds_design.specs.Circuit.{Circuit, register_nets}
use Rattle.ds_design.specs.declared.design.Net.{Net}
use Rattle.ds_split.specs.Bus.{bus_name}

-- stands for a net that is not there
abbrev pub no_net : Net
no_net = record { copy = 0; name = [] }

-- a net without its place in a bus
abbrev pub bus_of_net : Net → Net
bus_of_net net = record { copy = net.copy; name = bus_name net.name }

-- the bus that a register drives
abbrev pub bus_of : Circuit → ℕ → Net
bus_of c r = bus_of_net (slice_index_or c.nets (slice_index (register_nets c) r) no_net)

-- two registers belong together: where each stands alone, only one with itself; where there is one
-- cluster, always; by bus, where they drive one bus
abbrev pub Agree : Circuit → Mode → ℕ → ℕ → Type 0
Agree c Each a b = a ≡ b
Agree c One a b = ⊤
Agree c Bus a b = bus_of c a ≡ bus_of c b

-- each of so many registers stands in one cluster, and no other
pub record HasEachOnce (count : ℕ) (clusters : List (List ℕ)) : Type 0 where
  pub covered : (r : ℕ) → r < count → Any (λ registers. Contains registers r) clusters
  pub within : All (λ registers. All (λ r. r < count) registers) clusters
  pub once : AllPairs (λ a b. a ≢ b) (flat_map (λ registers. registers) clusters)

-- a cluster has both registers
abbrev pub HaveBoth : List (List ℕ) → ℕ → ℕ → Type 0
HaveBoth clusters a b = Any (λ registers. Contains registers a × Contains registers b) clusters

-- registers in clusters, those together that belong together; no cluster is empty, the registers of
-- each rise, and the clusters rise by their first registers
pub record IsGrouping (belong : ℕ → ℕ → Type 0) (count : ℕ)
    (clusters : List (List ℕ)) : Type 0 where
  pub each_once : HasEachOnce count clusters
  pub together : (a b : ℕ) → a < count → b < count → belong a b ↔ HaveBoth clusters a b
  pub some : All (λ registers. 0 < length registers) clusters
  pub rising : All (λ registers. AllPairs (λ a b. a < b) registers) clusters
  pub by_first : AllPairs (λ one other. slice_index one 0 < slice_index other 0) clusters

-- the clusters of a circuit's registers
abbrev pub IsClustering : Circuit → Mode → List (List ℕ) → Type 0
IsClustering c mode clusters = IsGrouping (Agree c mode) (length c.registers) clusters

-- there are more clusters than there may be
abbrev pub HasTooManyClusters : Circuit → Mode → Type 0
HasTooManyClusters c mode =
    (clusters : List (List ℕ)) × IsClustering c mode clusters × (most_of Clusters < length clusters)
