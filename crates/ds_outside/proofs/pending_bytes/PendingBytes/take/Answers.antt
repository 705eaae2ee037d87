use Rattle.std.proofs.Common.{◌∙◌, ap, arith, length, take, drop, ◌-◌, length-take, length-drop}
use Rattle.ds_outside.specs.Written.{appended}
use Rattle.ds_outside.proofs.Appended.{appended_more}
use Rattle.ds_outside.proofs.pending_bytes.PendingBytes.take.Goals as goal

pub loop-done-preserved : goal.loop-done-preserved
loop-done-preserved g c = record {
  within = grind (arith, length-take, length-drop);
  so_far =
      c.in_ok-done.ensures.ok
      ∙ (ap (λ w. appended w (take c.in_ok-done.field-0 (take (length c.args.piece.now - c.loop-done.done) (drop c.loop-done.done c.args.piece.now)))) c.loop-done.invariant.so_far
      ∙ appended_more (appended (g.O.Sink.written c.args.sink.now) c.args.self.now) c.args.piece.now c.loop-done.done c.in_ok-done.field-0);
  grew = λ before grew. c.in_ok-done.ensures.grew before (c.loop-done.invariant.grew before grew);
  faults = c.in_ok-done.ensures.ok_same ∙ c.loop-done.invariant.faults;
}
