-- The tables of each group.
use Rattle.std.specs.Prelude.{◌≡◌, ℕ, ◌<◌, ◌==◌, List, [], length, slice_index, slice_index_or}
use Rattle.std.specs.List.{filter}

-- the tables with a number, in an order
abbrev pub tables_numbered : List ℕ → List ℕ → ℕ → List ℕ
tables_numbered order numbers g = filter (λ k. slice_index numbers k == g) order

-- a list of the tables with each number
pub record AreMembers (order numbers : List ℕ) (count : ℕ) (lists : List (List ℕ)) : Type 0 where
  pub one_each : length lists ≡ count
  pub each : (g : ℕ) → g < count → slice_index_or lists g [] ≡ tables_numbered order numbers g
