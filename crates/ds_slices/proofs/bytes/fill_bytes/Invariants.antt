use Rattle.std.proofs.Common.{◌≡◌, ℕ, ◌+◌, ◌*◌, ◌<◌, length, take}
use Rattle.ds_cover.specs.Cover.{values_at}
use Rattle.ds_slices.specs.Turns.{turn_row}
use Rattle.ds_slices.proofs.bytes.fill_bytes.Given as goal

abbrev pub invariant-loop-i : goal.invariant-loop-i
invariant-loop-i l = record {
  size : length l.bytes ≡ length l.initial.bytes;
  told : (k : ℕ) → k < 8 → take l.i (turn_row l.bytes k) ≡ take l.i (values_at (turn_row l.words (8 * l.block + k)) l.nets);
}
