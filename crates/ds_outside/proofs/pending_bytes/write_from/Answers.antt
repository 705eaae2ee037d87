use Rattle.std.proofs.Common.{◌∙◌, ◌+◌, ℕ, List, Option, ap, arith, drop, subst, sym}
use Rattle.std.proofs.lemmas.Grind.{common_steps}
use Rattle.ds_outside.specs.Written.{appended}
use Rattle.ds_outside.specs.Handing.{Grew}
use Rattle.ds_outside.proofs.Handing.{handed_more, grew_more}
use Rattle.ds_outside.proofs.pending_bytes.write_from.Goals as goal

pub loop-done-preserved : goal.loop-done-preserved
loop-done-preserved g c = record {
  from = omega arith;
  within = grind (arith, common_steps);
  same = ap (λ (w : Option (List ℕ)). appended w (drop (c.loop-done.done + c.in-Ok.n) c.args.piece.now)) c.in-Ok.ensures.ok
      ∙ (handed_more (g.O.Sink.written c.loop-done.sink) c.args.piece.now c.loop-done.done c.in-Ok.n ∙ c.loop-done.invariant.same);
  grew = λ before grew. subst (λ (w : Option (List ℕ)). Grew before w) (sym c.in-Ok.ensures.ok) (grew_more before (g.O.Sink.written c.loop-done.sink) _ (c.loop-done.invariant.grew before grew));
  same_faults = c.in-Ok.ensures.ok_same ∙ c.loop-done.invariant.same_faults;
}
