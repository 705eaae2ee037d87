use Rattle.std.proofs.Common.{◌≡◌, length}
use Rattle.ds_cover.specs.Cover.{value_at}
use Rattle.ds_design.specs.declared.design.Register.{Register}
use Rattle.ds_settle.proofs.ByIndex.{IsFront}
use Rattle.ds_slices.specs.Turns.{turn_row}
use Rattle.ds_slices.proofs.state.set_state.Given as goal

abbrev pub invariant-loop-i : goal.invariant-loop-i
invariant-loop-i l = record {
  same : length l.state ≡ length l.initial.state;
  front : IsFront (λ (r : Register). value_at (turn_row l.words l.turn) r.data_net) l.registers l.state l.i;
}
