use Rattle.std.proofs.Common.{◌≡◌, ◌<◌, ◌∙◌, ℕ, arith, get_or, length, refl, subst, sym}
use Rattle.std.proofs.lemmas.List.{get_or_default}
use mathlib.Core.Logic.{dite}
use native.Mathlib.Decide.{ℕ_discrete}
use Rattle.ds_rule.specs.Run.{node_of}
use Rattle.ds_runner.proofs.firing_order.stand_in_place.Goals as goal

pub loop-i-preserved : goal.loop-i-preserved
loop-i-preserved g c j low =
    let inside : c.loop-i.i < length c.args.order.now = omega (arith, c.loop-i-test.true, c.loop-i.auto.i-end) in
    let event : c.index-order-i.result ≡ get_or c.args.order.now c.loop-i.i 0 =
    c.index-order-i.is ∙ get_or_default c.args.order.now c.loop-i.i c.index-order-i.result 0 inside in
    let P : ℕ → ℕ → Type 0 = λ x i. (node_of c.args.run.now x < c.args.run.now.nodes)
    × (get_or c.args.places.now x 0 ≡ i) in
    dite (ℕ_discrete j c.loop-i.i)
    (λ e. subst (λ (i : ℕ). P (get_or c.args.order.now i 0) i) (sym e)
    (subst (λ (x : ℕ). P x c.loop-i.i) event (c.if-not-stands_at.ensures refl)))
    (λ apart. c.loop-i.invariant j (omega arith))

pub returns : goal.returns
returns g c so j low = c.loop-i.invariant j (omega (arith, low, c.loop-i-test.false, c.loop-i.auto.i-end))
