-- What a node has stored, and for how much there is room.
use Rattle.std.specs.Prelude.{ℕ}
use Rattle.ds_base.specs.Values.{Row}

-- the rows one after the other, and how many values have room
pub record Stored : Type 0 where
  pub values : Row
  pub room : ℕ
