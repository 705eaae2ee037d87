-- The text that shows the clusters of a netlist.
use Rattle.std.specs.Prelude.{◌≡◌, ℕ, ◌≤◌, List, length, Option}
use Rattle.ds_base.specs.Limit.{most_of}
use Rattle.ds_base.specs.declared.number.Limit.TheVariants.{Clusters}
use Rattle.ds_base.specs.declared.number.Mode.{Mode}
use Rattle.ds_outside.specs.Held.{Held}
use Rattle.ds_design.specs.Circuit.{Circuit}
use Rattle.ds_groups.specs.Names.{register_names}
use Rattle.ds_groups.specs.Written.{clusters_text}
use Rattle.ds_split.specs.Grouped.{HasTooManyGrouped, IsGroupedClustering}
use Rattle.ds_stage.specs.FaultText.{file_line, too_many_text}
use Rattle.ds_stage.specs.GroupsStage.{groups_stage}
use Rattle.ds_stage.specs.Stage.{Stage, giving, judging, then_stage}

-- the clusters of a circuit with these groups, or the line that says that there are too many
abbrev pub clusters_stage : List ℕ → Mode → Circuit → List (List ℕ) → Stage (List (List ℕ))
clusters_stage file mode c groups =
    judging (λ clusters. IsGroupedClustering c mode groups clusters
    × (length clusters ≤ most_of Clusters))
    (λ line. HasTooManyGrouped c mode groups × (line ≡ file_line file (too_many_text Clusters)))

-- the clusters of a circuit, with the groups of a file where one is named
abbrev pub clustered_stage : (List ℕ → Held) → List ℕ → Option (List ℕ) → Mode → Circuit
    → Stage (List (List ℕ))
clustered_stage held file groups mode c =
    then_stage (groups_stage held groups c) (clusters_stage file mode c)

-- the text of these clusters
abbrev pub listed_stage : Circuit → List (List ℕ) → Stage (List ℕ)
listed_stage c clusters = giving (λ text. text ≡ clusters_text (register_names c) clusters)
