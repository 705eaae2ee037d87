use Rattle.std.proofs.Common.{◌≡◌, ◌<◌, ℕ, arith, get_or, length, refl, subst, sym}
use mathlib.Core.Logic.{dite}
use native.Mathlib.Decide.{ℕ_discrete}
use Rattle.ds_runner.proofs.firing_order.have_places.Goals as goal

pub loop-event-preserved : goal.loop-event-preserved
loop-event-preserved g c j low = dite (ℕ_discrete j c.loop-event.event)
    (λ e. subst (λ (x : ℕ). (get_or c.args.places.now x 0 < length c.args.order.now)
    × (get_or c.args.order.now (get_or c.args.places.now x 0) 0 ≡ x)) (sym e)
    (c.if-not-has_place.ensures refl))
    (λ apart. c.loop-event.invariant j (omega arith))

pub returns : goal.returns
returns g c so e low = c.loop-event.invariant e
    (omega (arith, low, c.loop-event-test.false, c.loop-event.auto.event-end, c.nodes.ensures, c.design_nodes.ensures))
