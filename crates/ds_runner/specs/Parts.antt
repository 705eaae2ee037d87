-- The parts of the nodes, one for each worker.
use Rattle.std.specs.Prelude.{◌≡◌, ℕ, ◌+◌, ◌<◌, ◌≤◌, List, length, slice_index}

-- where so many parts begin, one behind the other, and the number of nodes behind the last
pub record AreBorders (nodes parts : ℕ) (borders : List ℕ) : Type 0 where
  pub long : length borders ≡ parts + 1
  pub last : slice_index borders parts ≡ nodes
  pub rise : (j : ℕ) → j < parts → slice_index borders j ≤ slice_index borders (j + 1)
