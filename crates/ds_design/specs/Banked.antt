-- The tables of a design, packed.
use Rattle.std.specs.Prelude.{◌≡◌, ℕ, ◌<◌, List, length, slice_index_or}
use Rattle.ds_cover.specs.Bank.{Driven, IsDriven, driven_at}
use Rattle.ds_design.specs.declared.design.Gate.{Gate}

-- one packed table for each table, by its place in the file: the same function of the nets, which
-- drives the same net
pub record IsBankOf (tables : List Gate) (bank : List Driven) : Type 0 where
  pub one_each : length bank ≡ length tables
  pub table : (k : ℕ) (d : Gate) → k < length tables
      → IsDriven (driven_at bank k) (slice_index_or tables k d).table
      (slice_index_or tables k d).output
