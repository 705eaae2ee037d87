use Rattle.std.proofs.Common.{◌≡◌, length}
use Rattle.ds_design.specs.declared.design.Register.{Register}
use Rattle.ds_settle.proofs.ByIndex.{IsFront}
use Rattle.ds_settle.proofs.pick.set_initial.Given as goal
use Rattle.ds_design.specs.Circuit.{initial_value}

abbrev pub invariant-loop-i : goal.invariant-loop-i
invariant-loop-i l = record {
  same : length l.into ≡ length l.initial.into;
  front : IsFront (λ (r : Register). initial_value r.initial) l.registers l.into l.i;
}
