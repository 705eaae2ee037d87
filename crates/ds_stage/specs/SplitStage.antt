-- A netlist that is split into latches, its registers in the clusters of groups and of a mode.
use Rattle.std.specs.Prelude.{◌≡◌, ◌⊎◌, ℕ, ◌≤◌, List, length, Option}
use Rattle.ds_base.specs.Limit.{most_of}
use Rattle.ds_base.specs.declared.number.Limit.TheVariants.{Arcs, Clusters}
use Rattle.ds_base.specs.declared.number.Mode.{Mode}
use Rattle.ds_outside.specs.Held.{Held}
use Rattle.ds_design.specs.Circuit.{Circuit}
use Rattle.ds_latch.specs.Node.{Split}
use Rattle.ds_split.specs.Grouped.{HasTooManyGrouped, IsGroupedClustering}
use Rattle.ds_split.specs.Split.{HasTooManyOrders, split_into}
use Rattle.ds_stage.specs.FaultText.{file_line, too_many_text}
use Rattle.ds_stage.specs.GroupsStage.{groups_stage}
use Rattle.ds_stage.specs.Stage.{Stage, judging, then_stage}

-- the registers of a circuit in few enough clusters, and the circuit split by them
pub record IsInClusters (mode : Mode) (groups : List (List ℕ)) (c : Circuit) (s : Split)
    : Type 0 where
  pub clusters : List (List ℕ)
  pub are : IsGroupedClustering c mode groups clusters
  pub few : length clusters ≤ most_of Clusters
  pub is : s ≡ split_into c clusters

-- too many clusters come before too many required orders
abbrev pub IsSplitLine : List ℕ → Mode → Circuit → List (List ℕ) → List ℕ → Type 0
IsSplitLine file mode c groups line =
    (HasTooManyGrouped c mode groups × (line ≡ file_line file (too_many_text Clusters)))
    ⊎ ((s : Split) × IsInClusters mode groups c s × HasTooManyOrders s
    × (line ≡ file_line file (too_many_text Arcs)))

-- a circuit with these groups split into latches that ask for few enough orders, or the line that
-- refuses it
abbrev pub parted_stage : List ℕ → Mode → Circuit → List (List ℕ) → Stage Split
parted_stage file mode c groups =
    judging (λ s. IsInClusters mode groups c s × ¬ HasTooManyOrders s)
    (IsSplitLine file mode c groups)

-- a circuit split into latches, with the groups of a file where one is named
abbrev pub split_stage : (List ℕ → Held) → List ℕ → Option (List ℕ) → Mode → Circuit → Stage Split
split_stage held file groups mode c =
    then_stage (groups_stage held groups c) (parted_stage file mode c)
