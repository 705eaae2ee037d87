use Rattle.std.proofs.Common.{◌≡◌, length}
use Rattle.ds_cover.specs.Cover.{value_at}
use Rattle.ds_settle.proofs.ByIndex.{IsFront}
use Rattle.ds_run.proofs.starts.start_of.Given as goal

abbrev pub invariant-loop-i : goal.invariant-loop-i
invariant-loop-i l = record {
  same : length l.row ≡ length l.registers;
  front : IsFront (value_at l.initial') l.registers l.row l.i;
}
