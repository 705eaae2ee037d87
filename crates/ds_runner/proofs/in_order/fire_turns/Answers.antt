use Rattle.std.proofs.Common.{◌∙◌, ap, arith, refl, sym}
use Rattle.ds_rule.specs.Run.{Run}
use Rattle.ds_fabric.specs.Base.{Base}
use Rattle.ds_runner.proofs.FiringOrders.{first_turn_of, still_has, unmoved}
use Rattle.ds_runner.proofs.WorkLemmas.{moved_on, still_belongs}
use Rattle.ds_runner.proofs.in_order.fire_turns.Goals as goal

pub is_unfired-requires-clause-run : goal.is_unfired-requires-clause-run
is_unfired-requires-clause-run g c = let (same, _) = c.workload.invariant in
    c.requires.fits.run ∙ sym (same ∙ ap (λ (x : Base). x.run) c.workload.view_is)

pub turns-init : goal.turns-init
turns-init g c = let (same, _) = c.workload.invariant in let runs = same ∙ ap (λ (x : Base). x.run) c.workload.view_is in record {
  moved = unmoved c.args.workload.now.memory c.args.pass.now;
  stands = first_turn_of c.args.workload.now.run c.args.pass.now.view c.args.order.now
      (c.requires.order (omega (arith, c.if-order-eq0.false)))
      (λ l near. c.if-not-is_unfired.ensures refl l
      (omega (arith, near, ap (λ (r : Run). r.nodes) runs)));
  fired = refl;
}

pub fire_turn-requires-clause-fits : goal.fire_turn-requires-clause-fits
fire_turn-requires-clause-fits g c κs within = still_belongs c.args.workload.now c.args.pass.now c.turns.pass c.requires.fits c.turns.invariant.moved

pub fire_turn-requires-clause-all : goal.fire_turn-requires-clause-all
fire_turn-requires-clause-all g c κs within = still_has c.args.workload.now.memory c.args.pass.now c.turns.pass c.requires.all c.turns.invariant.moved

pub fire_turn-requires-clause-order : goal.fire_turn-requires-clause-order
fire_turn-requires-clause-order g c κs within = c.requires.order (omega (arith, c.if-order-eq0.false))

pub fire_turn-requires-clause-turn : goal.fire_turn-requires-clause-turn
fire_turn-requires-clause-turn g c κs within = let (same, _) = c.workload.invariant in let runs = same ∙ ap (λ (x : Base). x.run) c.workload.view_is in
    omega (arith, c.turns-test.true, c.limit-turn-end.ensures, c.turns.auto.turn-end, ap (λ (r : Run). r.limit) runs)

pub turns-preserved : goal.turns-preserved
turns-preserved g c = let e = c.if-not-fire_turn.ensures in let i = c.turns.invariant in record {
  moved = moved_on c.args.workload.now.memory c.args.pass.now c.turns.pass c.fire_turn.new.pass i.moved e.moved;
  stands = e.turn refl;
  fired = e.fired ∙ i.fired;
}
