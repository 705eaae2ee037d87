-- Clusters with groups: what `clusters` prints gives them again, and without a file of groups there
-- are those of the mode.
use Rattle.std.specs.Prelude.{◌≡◌, ◌≢◌, ◌↔◌, ◌⊎◌, ℕ, ◌≤◌, List, [], ◌∷◌, ◌++◌, length, AllPairs}
use Rattle.std.specs.Prelude.{Contains, None, Some}
use Rattle.ds_base.specs.Limit.{most_of}
use Rattle.ds_base.specs.declared.number.Limit.TheVariants.{Arcs, Bytes, Clusters as MostClusters}
use Rattle.ds_base.specs.declared.number.Mode.{Mode}
use Rattle.ds_outside.specs.Held.{Held, bytes, untold}
use Rattle.ds_design.specs.Circuit.{Circuit}
use Rattle.ds_latch.specs.Node.{Split}
use Rattle.ds_cmd.specs.declared.job.Job.TheVariants.{Clusters}
use Rattle.ds_cmd.specs.declared.list_clusters.ClustersJob.{ClustersJob}
use Rattle.ds_groups.specs.Names.{register_names}
use Rattle.ds_groups.specs.Read.{register_name}
use Rattle.ds_groups.specs.Written.{clusters_text}
use Rattle.ds_split.specs.Cluster.{HasTooManyClusters, IsClustering}
use Rattle.ds_split.specs.Split.{HasTooManyOrders, split_into}
use Rattle.ds_stage.specs.ClustersStage.{clustered_stage}
use Rattle.ds_stage.specs.FaultText.{file_line, too_many_text}
use Rattle.ds_stage.specs.SplitStage.{split_stage}
use Rattle.ds_stage.specs.Stages.{netlist_stage}
use Rattle.ds_app.specs.Job.{stages_of}

-- a name ends in a `\`
abbrev pub EndsInBackslash : List ℕ → Type 0
EndsInBackslash name = (front : List ℕ) × (name ≡ front ++ 92 ∷ [])

-- a job that lists clusters has printed them; no two registers print alike, and no cluster's last
-- register has a name that ends in a `\`
pub record HasListed (held : List ℕ → Held) (job : ClustersJob) (printed : List ℕ) : Type 0 where
  pub circuit : Circuit
  pub clusters : List (List ℕ)
  pub told : held job.net ≢ untold
  pub netlist : (netlist_stage held job.net).means circuit
  pub are : (clustered_stage held job.net job.groups job.clusters circuit).means clusters
  pub text : printed ≡ clusters_text (register_names circuit) clusters
  pub apart : AllPairs (λ one other. one ≢ other) (register_names circuit)
  pub ends : (front : List ℕ) (last : ℕ) → Contains clusters (front ++ last ∷ [])
      → ¬ EndsInBackslash (register_name (register_names circuit) last)

-- `clusters` of the same netlist with the groups of a file, by a mode
abbrev pub clusters_after : ClustersJob → Mode → List ℕ → ClustersJob
clusters_after job mode file = record { net = job.net; clusters = mode; groups = Some file }

-- what `clusters` prints is a file of groups, by which the netlist has the same clusters, with any
-- mode, and `clusters` prints the same, where the text is not too long
abbrev pub PrintedClustersAreGroups : Type 0
PrintedClustersAreGroups = (held : List ℕ → Held) (job : ClustersJob) (printed file : List ℕ)
    → (listed : HasListed held job printed) → held file ≡ bytes printed
    → length printed ≤ most_of Bytes → (mode : Mode)
    → (clustered_stage held job.net (Some file) mode listed.circuit).means listed.clusters
    × (stages_of held (Clusters (clusters_after job mode file))).means printed

-- a circuit in the clusters of a mode, split by them, which asks for few enough orders
pub record IsSplitByMode (mode : Mode) (c : Circuit) (s : Split) : Type 0 where
  pub clusters : List (List ℕ)
  pub are : IsClustering c mode clusters
  pub few : length clusters ≤ most_of MostClusters
  pub is : s ≡ split_into c clusters
  pub fits : ¬ HasTooManyOrders s

-- the clusters of a mode, few enough, ask for too many orders
pub record AsksTooMany (mode : Mode) (c : Circuit) : Type 0 where
  pub clusters : List (List ℕ)
  pub are : IsClustering c mode clusters
  pub few : length clusters ≤ most_of MostClusters
  pub many : HasTooManyOrders (split_into c clusters)

-- the line of too many clusters of a mode, or of too many orders
abbrev pub IsModeLine : List ℕ → Mode → Circuit → List ℕ → Type 0
IsModeLine file mode c line =
    (HasTooManyClusters c mode × (line ≡ file_line file (too_many_text MostClusters)))
    ⊎ (AsksTooMany mode c × (line ≡ file_line file (too_many_text Arcs)))

-- where no file of groups is named, a netlist is split by its mode alone
pub record SplitsByMode (held : List ℕ → Held) (net : List ℕ) (mode : Mode) (c : Circuit)
    : Type 0 where
  pub means : (s : Split) → (split_stage held net None mode c).means s ↔ IsSplitByMode mode c s
  pub refused : (line : List ℕ)
      → (split_stage held net None mode c).refused line ↔ IsModeLine net mode c line

-- whatever the files hold, each design is split by its mode alone where no file of groups is named
abbrev pub WithoutFileOfGroups : Type 0
WithoutFileOfGroups = (held : List ℕ → Held) (net : List ℕ) (mode : Mode) (c : Circuit)
    → SplitsByMode held net mode c
