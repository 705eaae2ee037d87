-- Tables by level come after those that they read.
use Rattle.std.proofs.Common.{ℕ, ◌<◌, List, length, get_or, arith}
use Rattle.std.specs.Prelude.{All}
use Rattle.ds_design.specs.Circuit.{Circuit}
use Rattle.ds_design.specs.Levels.{IsByLevel}
use Rattle.ds_design.proofs.ByLevel.{not_read}
use Rattle.ds_settle.specs.Cone.{AreInOrder}

-- by level, no table reads what it or a later one drives
pub order_by_level : (c : Circuit) (tables : List ℕ) → All (λ k. k < length c.tables) tables → IsByLevel c tables → AreInOrder c tables
order_by_level c tables within h = record {
  within = within;
  before = λ i j d below inside reads. not_read c h.levels h.are (get_or tables i 0) (get_or tables j 0) d (within i 0 (omega arith)) (within j 0 inside) (h.rising i j 0 below inside) reads;
}
