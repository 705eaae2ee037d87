use Rattle.std.proofs.Common.{◌≡◌, ◌∙◌, ap, arith, sym, subst, true}
use Rattle.ds_base.specs.Scratch.{Remembers}
use Rattle.ds_rule.specs.Rule.{holds}
use Rattle.ds_rule.specs.declared.view.View.{View}
use Rattle.ds_fabric.specs.Showing.{Showing}
use Rattle.ds_fabric.specs.Stepped.{Stepped, FiresIfEnabled}
use Rattle.ds_fabric.proofs.fabric.Fabric.step.Goals as goal

pub step_node-requires-clause-table : goal.step_node-requires-clause-table
step_node-requires-clause-table g c = (
  ap (λ (x : Showing). x.table_id) c.pass.view_is ∙ c.requires.fits.table,
  ap (λ (x : Showing). x.view.run) c.pass.view_is ∙ c.requires.fits.run,
)

pub step_node-requires-clause-pass : goal.step_node-requires-clause-pass
step_node-requires-clause-pass g c = (c.pass.inside.room, c.pass.invariant)

pub step_node-requires-clause-held : goal.step_node-requires-clause-held
step_node-requires-clause-held g c =
    subst (λ (x : Showing). holds x.view c.args.node ≡ true) (sym c.pass.view_is) c.requires.held

pub invariant_of-pass : goal.invariant_of-pass
invariant_of-pass g c = c.step_node.ensures.pass c.pass.inside.room c.pass.invariant

pub returns-clause-step : goal.returns-clause-step
returns-clause-step g c =
    subst (λ (v : View). Stepped c.args.self.now.run v c.args.node c.step_node.result
    c.step_node.new.seat.me.0)
    (ap (λ (x : Showing). x.view) c.pass.view_is) c.step_node.ensures.step

pub returns-clause-same : goal.returns-clause-same
returns-clause-same g c = let q = c.step_node.ensures.same in let e = c.pass.view_is in record {
  table = q.0 ∙ ap (λ (x : Showing). x.table_id) e;
  run = q.1 ∙ ap (λ (x : Showing). x.view.run) e;
  holds_same = q.2 ∙ ap (λ (x : Showing). x.view.holds) e;
  many = omega (arith, q.3, ap (λ (x : Showing). x.many) e);
  room = ap (λ (x : Showing). x.room) e;
  remembers = λ _. c.step_node.ensures.remembers;
}

pub step_node-requires-clause-remembers : goal.step_node-requires-clause-remembers
step_node-requires-clause-remembers g c =
    subst (Remembers c.args.self.now.memory) (sym (ap (λ (x : Showing). x.scratch) c.pass.view_is))
    c.requires.fits.remembers

pub returns-clause-exact : goal.returns-clause-exact
returns-clause-exact g c =
    subst (λ (v : View). FiresIfEnabled c.args.self.now.run v c.args.node c.step_node.result)
    (ap (λ (x : Showing). x.view) c.pass.view_is) c.step_node.ensures.exact
