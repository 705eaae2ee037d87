-- Least sums of tokens along walks.
use Rattle.std.specs.Prelude.{◌≡◌, ℕ, ◌<◌, ◌≤◌, Option, None, Some, List, length}
use Rattle.std.specs.List.{slice_index_or}
use Rattle.ds_marked.specs.Graph.{Graph, Walk}

-- the least sum of tokens along walks from one event to another, or none where there is no walk
abbrev pub IsLeast : Graph → ℕ → ℕ → Option ℕ → Type 0
IsLeast g from to None = (sum : ℕ) → ¬ Walk g from to sum
IsLeast g from to (Some least) = Walk g from to least
    × ((sum : ℕ) → Walk g from to sum → least ≤ sum)

-- the same for each event
pub record AreLeastSums (g : Graph) (from : ℕ) (sums : List (Option ℕ)) : Type 0 where
  pub one_each : length sums ≡ length g.events
  pub least : (v : ℕ) → v < length g.events → IsLeast g from v (slice_index_or sums v None)
