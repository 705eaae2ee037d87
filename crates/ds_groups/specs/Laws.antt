-- What follows of the definitions.
use Rattle.std.specs.Prelude.{◌≡◌, ◌≢◌, ◌↔◌, ℕ, ◌<◌, ◌≤◌, List, length, map, All, AllPairs}
use Rattle.std.specs.Prelude.{Contains, Any, true, Ok}
use Rattle.std.specs.List.{AllByRecursion}
use Rattle.ds_base.specs.Limit.{most_of}
use Rattle.ds_base.specs.declared.number.Limit.TheVariants.{Clusters}
use Rattle.ds_design.specs.Groups.{AreDisjoint}
use Rattle.ds_lines.specs.Line.{Line, lines_of}
use Rattle.ds_lines.specs.Print.{IsPlain}
use Rattle.ds_groups.specs.Match.{has_form}
use Rattle.ds_groups.specs.Pieces.{AreInARow, pieces_of}
use Rattle.ds_groups.specs.Read.{groups_of, register_name}
use Rattle.ds_groups.specs.Written.{clusters_text}

-- a text matches a pattern exactly where the pattern's pieces stand in it in a row, with any bytes
-- between
abbrev pub MatchesByPieces : Type 0
MatchesByPieces = (pattern text : List ℕ)
    → (has_form pattern text ≡ true) ↔ AreInARow (pieces_of pattern) text

-- each line has a word
abbrev pub HaveWords : List Line → Type 0
HaveWords lines = All (λ line. 0 < length line.words) lines

-- groups are disjoint and none is empty, and there is one for each line
abbrev pub GroupsAreDisjoint : Type 0
GroupsAreDisjoint = (names : List (List ℕ)) (lines : List Line) (groups : List (List ℕ))
    → HaveWords lines → groups_of names lines ≡ Ok groups
    → AreDisjoint (length names) groups × (length groups ≡ length lines)

-- clusters of all registers, none empty, whose registers rise
pub record AreAll (count : ℕ) (clusters : List (List ℕ)) : Type 0 where
  pub disjoint : AreDisjoint count clusters
  pub covered : (r : ℕ) → r < count → Any (λ registers. Contains registers r) clusters

-- the text that shows clusters, which are not too many, is read as groups that are these clusters,
-- where no two names are alike and the names of each cluster are a line
abbrev pub ClustersAreRead : Type 0
ClustersAreRead = (names clusters : List (List ℕ))
    → AllPairs (λ one other. one ≢ other) names → AreAll (length names) clusters
    → length clusters ≤ most_of Clusters
    → AllByRecursion (λ registers. IsPlain (map (register_name names) registers)) clusters
    → groups_of names (lines_of (clusters_text names clusters)) ≡ Ok clusters
