-- Rows of one width: the vectors of a run.
use Rattle.std.specs.Prelude.{◌≡◌, ◌≤◌, ℕ, List, length, All}
use Rattle.ds_base.specs.Limit.{most_of}
use Rattle.ds_base.specs.declared.number.Limit.TheVariants.{Vectors}
use Rattle.ds_base.specs.Values.{Row}

-- a width and the rows
pub record Rows : Type 0 where
  pub width : ℕ
  pub rows : List Row

-- each row has the width, and there are no more rows than the limit of vectors
pub record AreVectors (r : Rows) : Type 0 where
  pub one_width : All (λ row. length row ≡ r.width) r.rows
  pub few : length r.rows ≤ most_of Vectors
