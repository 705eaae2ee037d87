use Rattle.std.proofs.Common.{ℕ, arith, subst}
use Rattle.ds_rule.specs.Run.{Run}
use Rattle.ds_rule.proofs.EventLaws.{events-is}
use Rattle.ds_fabric.specs.Into.{AreIntoBelow}
use Rattle.ds_fabric.proofs.incoming.Incoming.of.Goals as goal

pub overflow_add-event-end : goal.overflow_add-event-end
overflow_add-event-end g c = omega (arith, c.requires.few, c.nodes.ensures, c.design_nodes.ensures)

pub loop-event-init : goal.loop-event-init
loop-event-init g c = c.in_ok-incoming.ensures

pub take_in-requires-clause-chains : goal.take_in-requires-clause-chains
take_in-requires-clause-chains g c = c.in_ok-chains.ensures

pub take_in-requires-clause-below : goal.take_in-requires-clause-below
take_in-requires-clause-below g c = c.loop-event.invariant

pub loop-event-preserved : goal.loop-event-preserved
loop-event-preserved g c = c.in_ok-take_in.ensures

pub take_in-requires-clause-near : goal.take_in-requires-clause-near
take_in-requires-clause-near g c = omega (
  arith,
  c.loop-event-test.true,
  c.nodes.ensures,
  c.design_nodes.ensures,
  events-is c.args.run.now,
)

pub returns : goal.returns
returns g c = let run : Run = c.args.run.now in
    subst (λ (n : ℕ). AreIntoBelow run n c.loop-event.incoming.starts.items
    c.loop-event.incoming.arcs.items c.loop-event.incoming.numbers.items)
    (omega (
      arith,
      c.loop-event-test.false,
      c.loop-event.auto.event-end,
      c.nodes.ensures,
      c.design_nodes.ensures,
      events-is run,
    ))
    c.loop-event.invariant
