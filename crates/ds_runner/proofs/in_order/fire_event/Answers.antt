use Rattle.std.proofs.Common.{◌≡◌, ◌∙◌, ap, arith, subst, sym}
use Rattle.ds_base.specs.Scratch.{Remembers}
use Rattle.ds_rule.specs.Run.{Run, node_of, next, IsEnabledInRun}
use Rattle.ds_rule.specs.Rule.{seen}
use Rattle.ds_fabric.specs.Stepped.{FiresWith}
use Rattle.ds_fabric.specs.Base.{Base}
use Rattle.ds_runner.proofs.FiringOrders.{counted_once, counted_same, enabled_of_due, holds_node, next_of_due, one_ticket_more, small}
use Rattle.ds_runner.proofs.in_order.fire_event.Given
use Rattle.ds_runner.proofs.in_order.fire_event.Goals as goal
use Rattle.ds_runner.proofs.in_order.fire_event.Goals.{After-node_of-node}

-- the node that was found is that of the event
here : (g : Given.Over) (c : After-node_of-node g) → c.node_of-node.result ≡ node_of c.args.workload.now.run c.args.event
here g c = let (same, _) = c.workload.invariant in
    c.node_of-node.ensures ∙ (ap (node_of c.workload.inside.run.now) c.index-number.ensures
    ∙ ap (λ (r : Run). node_of r c.args.event) (same ∙ ap (λ (x : Base). x.run) c.workload.view_is))

pub overflow_cast-number : goal.overflow_cast-number
overflow_cast-number g c = omega (
  arith,
  c.index-number.ensures,
  small c.args.workload.now.run c.args.event c.requires.sound c.requires.due.near,
  c.requires.sound.few,
)

pub overflow_cast-node : goal.overflow_cast-node
overflow_cast-node g c = omega (
  arith,
  here g (goal.at.overflow_cast-node g c).After-node_of-node,
  c.requires.due.near,
  c.requires.sound.few,
)

pub overflow_add-turn : goal.overflow_add-turn
overflow_add-turn g c = omega (arith, c.requires.turn, c.requires.sound.short)

pub fire_due-requires-clause-held : goal.fire_due-requires-clause-held
fire_due-requires-clause-held g c = holds_node c.args.workload.now.run c.args.pass.now.view c.args.event c.new.result
    c.requires.fits.run c.requires.all
    (c.new.ensures ∙ here g (goal.at.fire_due-requires-clause-held g c).After-node_of-node) c.requires.due.near

pub fire_due-requires-clause-due : goal.fire_due-requires-clause-due
fire_due-requires-clause-due g c =
    subst (λ (b : Base). IsEnabledInRun b.run (seen c.args.pass.now.view)
    (next b.run c.new.result (seen c.args.pass.now.view c.new.result))) (sym c.workload.view_is)
    (enabled_of_due c.args.workload.now.run c.args.pass.now.view c.args.event c.new.result
    (c.new.ensures ∙ here g (goal.at.fire_due-requires-clause-due g c).After-node_of-node) c.requires.due)

pub returns-clause-moved : goal.returns-clause-moved
returns-clause-moved g c = let q = c.fire_due.ensures.same in record {
  table = q.table;
  many = q.many;
  room = q.room;
  remembers = subst (λ (b : Base). Remembers b.memory c.args.pass.now.scratch
      → Remembers b.memory c.fire_due.new.pass.scratch) c.workload.view_is q.remembers;
  run = q.run;
  holds_same = q.holds_same;
  up = c.fire_due.ensures.fires.seen_up;
}

pub returns-clause-fired : goal.returns-clause-fired
returns-clause-fired g c =
    let fires : FiresWith c.args.workload.now.run c.args.pass.now.view c.fire_due.new.pass.view c.new.result
    c.fire_due.result = subst (λ (b : Base). FiresWith b.run c.args.pass.now.view c.fire_due.new.pass.view c.new.result
    c.fire_due.result) c.workload.view_is c.fire_due.ensures.fires in
    let own = c.new.ensures ∙ here g (goal.at.returns-clause-fired g c).After-node_of-node in omega (
      arith,
      one_ticket_more c.args.workload.now.run c.args.pass.now.view c.fire_due.new.pass.view c.new.result c.fire_due.result
          c.requires.sound c.requires.fits.run (omega (arith, own, c.requires.due.near)) fires,
      c.requires.quota_left,
    )

pub returns-clause-once : goal.returns-clause-once
returns-clause-once g c =
    let fires : FiresWith c.args.workload.now.run c.args.pass.now.view c.fire_due.new.pass.view c.new.result
    c.fire_due.result = subst (λ (b : Base). FiresWith b.run c.args.pass.now.view c.fire_due.new.pass.view c.new.result
    c.fire_due.result) c.workload.view_is c.fire_due.ensures.fires in
    let own = c.new.ensures ∙ here g (goal.at.returns-clause-once g c).After-node_of-node in
    counted_once c.args.workload.now.run c.args.pass.now.view c.fire_due.new.pass.view c.args.event c.new.result
    c.fire_due.result own
    (next_of_due c.args.workload.now.run c.args.pass.now.view c.args.event c.new.result own c.requires.due) fires

pub returns-clause-others : goal.returns-clause-others
returns-clause-others g c =
    let fires : FiresWith c.args.workload.now.run c.args.pass.now.view c.fire_due.new.pass.view c.new.result
    c.fire_due.result = subst (λ (b : Base). FiresWith b.run c.args.pass.now.view c.fire_due.new.pass.view c.new.result
    c.fire_due.result) c.workload.view_is c.fire_due.ensures.fires in
    let own = c.new.ensures ∙ here g (goal.at.returns-clause-others g c).After-node_of-node in
    counted_same c.args.workload.now.run c.args.pass.now.view c.fire_due.new.pass.view c.args.event c.new.result
    c.fire_due.result c.requires.fits.run c.requires.all
    (next_of_due c.args.workload.now.run c.args.pass.now.view c.args.event c.new.result own c.requires.due) fires
