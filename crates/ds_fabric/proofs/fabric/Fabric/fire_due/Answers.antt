use Rattle.std.proofs.Common.{◌≡◌, ◌∙◌, ap, arith, sym, subst, true}
use Rattle.ds_base.specs.Scratch.{Remembers}
use Rattle.ds_rule.specs.Run.{next, IsEnabledInRun}
use Rattle.ds_rule.specs.Rule.{holds, seen}
use Rattle.ds_rule.specs.declared.view.View.{View}
use Rattle.ds_fabric.specs.Showing.{Showing}
use Rattle.ds_fabric.specs.Stepped.{FiresWith}
use Rattle.ds_fabric.proofs.fabric.Fabric.fire_due.Goals as goal

pub fire_node-requires-clause-table : goal.fire_node-requires-clause-table
fire_node-requires-clause-table g c = (
  ap (λ (x : Showing). x.table_id) c.pass.view_is ∙ c.requires.fits.table,
  ap (λ (x : Showing). x.view.run) c.pass.view_is ∙ c.requires.fits.run,
)

pub fire_node-requires-clause-pass : goal.fire_node-requires-clause-pass
fire_node-requires-clause-pass g c = (c.pass.inside.room, c.pass.invariant)

pub fire_node-requires-clause-held : goal.fire_node-requires-clause-held
fire_node-requires-clause-held g c =
    subst (λ (x : Showing). holds x.view c.args.node ≡ true) (sym c.pass.view_is) c.requires.held

pub invariant_of-pass : goal.invariant_of-pass
invariant_of-pass g c = c.fire_node.ensures.pass c.pass.inside.room c.pass.invariant

pub returns-clause-fires : goal.returns-clause-fires
returns-clause-fires g c =
    subst (λ (v : View). FiresWith c.args.self.now.run v c.fire_node.new.seat.me.0 c.args.node
    c.fire_node.result) (ap (λ (x : Showing). x.view) c.pass.view_is) c.fire_node.ensures.fires

pub fire_node-requires-clause-due : goal.fire_node-requires-clause-due
fire_node-requires-clause-due g c =
    subst (λ (x : Showing). IsEnabledInRun c.args.self.now.run (seen x.view)
    (next c.args.self.now.run c.args.node (seen x.view c.args.node))) (sym c.pass.view_is) c.requires.due

pub returns-clause-same : goal.returns-clause-same
returns-clause-same g c = let q = c.fire_node.ensures.same in let e = c.pass.view_is in record {
  table = q.0 ∙ ap (λ (x : Showing). x.table_id) e;
  run = q.1 ∙ ap (λ (x : Showing). x.view.run) e;
  holds_same = q.2 ∙ ap (λ (x : Showing). x.view.holds) e;
  many = omega (arith, q.3, ap (λ (x : Showing). x.many) e);
  room = ap (λ (x : Showing). x.room) e;
  remembers = λ _. c.fire_node.ensures.remembers;
}

pub fire_node-requires-clause-remembers : goal.fire_node-requires-clause-remembers
fire_node-requires-clause-remembers g c =
    subst (Remembers c.args.self.now.memory) (sym (ap (λ (x : Showing). x.scratch) c.pass.view_is))
    c.requires.fits.remembers
