-- What follows of the definitions of clusters.
use Rattle.std.specs.Prelude.{◌≡◌, ◌↔◌, ℕ, List, []}
use Rattle.ds_base.specs.declared.number.Mode.{Mode}
use Rattle.ds_design.specs.Circuit.{Circuit}
use Rattle.ds_split.specs.Cluster.{IsClustering}
use Rattle.ds_split.specs.Grouped.{IsGroupedClustering}

-- registers have one clustering
abbrev pub OneClustering : Type 0
OneClustering = (c : Circuit) (mode : Mode) (one other : List (List ℕ))
    → IsClustering c mode one → IsClustering c mode other → one ≡ other

-- with groups too
abbrev pub OneGroupedClustering : Type 0
OneGroupedClustering = (c : Circuit) (mode : Mode) (groups one other : List (List ℕ))
    → IsGroupedClustering c mode groups one → IsGroupedClustering c mode groups other
    → one ≡ other

-- without groups the clusters are those of the mode
abbrev pub WithoutGroups : Type 0
WithoutGroups = (c : Circuit) (mode : Mode) (clusters : List (List ℕ))
    → IsGroupedClustering c mode [] clusters ↔ IsClustering c mode clusters
