use Rattle.std.proofs.Common.{◌+◌, ◌*◌, ◌<◌, ℕ, arith, get_or, refl, subst, sym}
use mathlib.Core.Logic.{dite}
use native.Mathlib.Decide.{ℕ_discrete}
use Rattle.ds_runner.proofs.firing_order.close_later.Goals as goal

pub loop-latch-preserved : goal.loop-latch-preserved
loop-latch-preserved g c j low = dite (ℕ_discrete j c.loop-latch.latch)
    (λ e. subst (λ (x : ℕ). get_or c.args.places.now (2 * x) 0 < get_or c.args.places.now (2 * x + 1) 0) (sym e)
    (c.if-not-is_before.ensures refl))
    (λ apart. c.loop-latch.invariant j (omega arith))

pub returns : goal.returns
returns g c so l low = c.loop-latch.invariant l
    (omega (arith, low, c.loop-latch-test.false, c.loop-latch.auto.latch-end, c.design_nodes-latch-end.ensures))
