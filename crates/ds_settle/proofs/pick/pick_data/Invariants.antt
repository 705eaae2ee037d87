use Rattle.std.proofs.Common.{◌≡◌, length}
use Rattle.ds_cover.specs.Cover.{value_at}
use Rattle.ds_design.specs.declared.design.Register.{Register}
use Rattle.ds_settle.proofs.ByIndex.{IsFront}
use Rattle.ds_settle.proofs.pick.pick_data.Given as goal

abbrev pub invariant-loop-i : goal.invariant-loop-i
invariant-loop-i l = record {
  same : length l.into ≡ length l.initial.into;
  front : IsFront (λ (r : Register). value_at l.nets r.data_net) l.registers l.into l.i;
}
