-- The text that shows clusters, which is a file of groups.
use Rattle.std.specs.Prelude.{ℕ, ◌+◌, List, [], ◌∷◌, ◌++◌, map, codes, decimal}
use Rattle.ds_lines.specs.Print.{line_text}
use Rattle.ds_groups.specs.Read.{register_name}

-- the comment that names the latches of the cluster with a number
abbrev pub latches_text : ℕ → List ℕ
latches_text i = codes " # M" ++ decimal i ++ codes " S" ++ decimal i

-- the line of the cluster with a number: the names of its registers, and of its latches
abbrev pub cluster_line : List (List ℕ) → ℕ → List ℕ → List ℕ
cluster_line names i registers =
    line_text (map (register_name names) registers) ++ latches_text i ++ codes "\n"

-- the lines of clusters from a number on
abbrev pub cluster_lines : List (List ℕ) → ℕ → List (List ℕ) → List ℕ
cluster_lines names i [] = []
cluster_lines names i (registers ∷ clusters) =
    cluster_line names i registers ++ cluster_lines names (i + 1) clusters

-- the text that shows clusters
abbrev pub clusters_text : List (List ℕ) → List (List ℕ) → List ℕ
clusters_text names clusters = cluster_lines names 0 clusters
