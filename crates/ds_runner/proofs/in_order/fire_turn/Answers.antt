use Rattle.std.proofs.Common.{◌≡◌, ◌<◌, ◌+◌, ◌∙◌, ℕ, arith, get_or, length, subst, sym}
use Rattle.std.proofs.lemmas.List.{get_or_default}
use Rattle.ds_rule.specs.Run.{Run, count}
use Rattle.ds_rule.specs.Rule.{seen}
use Rattle.ds_rule.specs.declared.view.View.{View}
use Rattle.ds_runner.specs.FiringOrder.{IsDue}
use Rattle.ds_runner.proofs.FiringOrders.{goes_on, next_due, next_turn, still_has}
use Rattle.ds_runner.proofs.WorkLemmas.{moved_on, still_belongs}
use Rattle.ds_runner.proofs.in_order.fire_turn.Goals as goal

pub fire_event-requires-clause-fits : goal.fire_event-requires-clause-fits
fire_event-requires-clause-fits g c κs within =
    still_belongs c.args.workload.now c.args.pass.now c.events.pass c.requires.fits c.events.invariant.moved

pub fire_event-requires-clause-all : goal.fire_event-requires-clause-all
fire_event-requires-clause-all g c κs within =
    still_has c.args.workload.now.memory c.args.pass.now c.events.pass c.requires.all c.events.invariant.moved

pub fire_event-requires-clause-due : goal.fire_event-requires-clause-due
fire_event-requires-clause-due g c κs within =
    let inside : c.events.i < length c.args.order.now = omega (arith, c.events-test.true, c.events.auto.i-end) in
    let event : c.index-order-i.result ≡ get_or c.args.order.now c.events.i 0 =
    c.index-order-i.is ∙ get_or_default c.args.order.now c.events.i c.index-order-i.result 0 inside in
    subst (IsDue c.args.workload.now.run c.events.pass.view) (sym event)
    (next_due c.args.workload.now.run c.events.pass.view c.args.order.now c.events.i c.args.turn c.requires.sound
    c.requires.order c.events.invariant.stands inside c.requires.turn)

pub events-preserved : goal.events-preserved
events-preserved g c = let e = c.fire_event.ensures in let i = c.events.invariant in
    let run : Run = c.args.workload.now.run in let v : View = c.events.pass.view in
    let w : View = c.fire_event.new.pass.view in
    let inside : c.events.i < length c.args.order.now = omega (arith, c.events-test.true, c.events.auto.i-end) in
    let event : c.index-order-i.result ≡ get_or c.args.order.now c.events.i 0 =
    c.index-order-i.is ∙ get_or_default c.args.order.now c.events.i c.index-order-i.result 0 inside in record {
      moved = moved_on c.args.workload.now.memory c.args.pass.now c.events.pass c.fire_event.new.pass i.moved e.moved;
      stands = goes_on run v c.args.order.now c.events.i c.args.turn c.requires.sound c.requires.order i.stands w inside
          (subst (λ (x : ℕ). count run (seen w) x ≡ count run (seen v) x + 1) event e.once)
          (λ x near apart. e.others x near (λ z. apart (z ∙ event)));
      fired = e.fired ∙ i.fired;
    }

pub returns-clause-turn : goal.returns-clause-turn
returns-clause-turn g c so = next_turn c.args.workload.now.run c.events.pass.view c.args.order.now c.events.i c.args.turn
    (omega (arith, c.events-test.false, c.events.auto.i-end)) c.events.invariant.stands
