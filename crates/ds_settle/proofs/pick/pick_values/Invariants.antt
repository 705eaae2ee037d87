use Rattle.std.proofs.Common.{◌≡◌, length}
use Rattle.ds_cover.specs.Cover.{value_at}
use Rattle.ds_settle.proofs.ByIndex.{IsFront}
use Rattle.ds_settle.proofs.pick.pick_values.Given as goal

abbrev pub invariant-loop-i : goal.invariant-loop-i
invariant-loop-i l = record {
  same : length l.into ≡ length l.initial.into;
  front : IsFront (value_at l.nets) l.these l.into l.i;
}
