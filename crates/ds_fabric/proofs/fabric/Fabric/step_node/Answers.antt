use Rattle.std.proofs.Common.{◌∙◌, ℕ, ap, sym, subst}
use Rattle.ds_rule.specs.Run.{Run}
use Rattle.ds_fabric.specs.Base.{Base}
use Rattle.ds_fabric.specs.Indexed.{IsHistoryAt}
use Rattle.ds_fabric.specs.Stepped.{Stepped, FiresIfEnabled}
use Rattle.ds_rule.specs.declared.view.View.{View}
use Rattle.ds_fabric.proofs.FiresIfEnabled.{fires_if_enabled}
use Rattle.ds_fabric.proofs.Finds.{indexed_same, stands_same, found_at}
use Rattle.ds_fabric.proofs.fabric.Fabric.step_node.Given
use Rattle.ds_fabric.proofs.fabric.Fabric.step_node.Goals as goal
use Rattle.ds_fabric.proofs.fabric.Fabric.step_node.Goals.{After-find-at}

pub find-at-requires-clause-indexed : goal.find-at-requires-clause-indexed
find-at-requires-clause-indexed g c = let (room, pass) = c.requires.pass in (
  c.args.seat.now.me.0.run.nodes,
  room,
  indexed_same c.args.seat.now.me.0.run.nodes room c.args.histories.now.nodes.items
      c.as_slice-nodes.result.now c.args.histories.now.places.items c.as_slice.result.now
      c.as_slice-nodes.ensures.value c.as_slice.ensures.value pass.indexed,
)

pub find-at-requires-clause-there : goal.find-at-requires-clause-there
find-at-requires-clause-there g c = let (_, pass) = c.requires.pass in
    stands_same c.args.histories.now.nodes.items c.as_slice-nodes.result.now c.index-number.result
    c.args.node c.as_slice-nodes.ensures.value c.index-number.ensures
    (pass.keeps.found c.args.node c.requires.held)

-- the history that was found is the node's
found : (g : Given.Over) (c : After-find-at g)
    → IsHistoryAt c.args.histories.now.nodes.items c.find-at.result c.args.node
found g c = found_at c.args.histories.now.nodes.items c.as_slice-nodes.result.now c.find-at.result
    c.index-number.result c.args.node c.as_slice-nodes.ensures.value c.index-number.ensures
    c.find-at.ensures

pub fire_if_enabled-requires-clause-run : goal.fire_if_enabled-requires-clause-run
fire_if_enabled-requires-clause-run g c = let (_, run) = c.requires.table in
    run ∙ sym (ap (λ (x : Base). x.run) c.self.view_is)

pub returns-clause-pass : goal.returns-clause-pass
returns-clause-pass g c room p = c.fire_if_enabled.ensures.pass room p

pub fire_if_enabled-requires-clause-there : goal.fire_if_enabled-requires-clause-there
fire_if_enabled-requires-clause-there g c = (
  c.args.node,
  found g (goal.at.fire_if_enabled-requires-clause-there g c).After-find-at,
)

pub returns-clause-step : goal.returns-clause-step
returns-clause-step g c = let f = found g (goal.at.returns-clause-step g c).After-find-at in
    subst (λ (r : Run). Stepped r c.args.seat.now.me.0 c.args.node c.fire_if_enabled.result
    c.fire_if_enabled.new.seat.me.0) (ap (λ (x : Base). x.run) c.self.view_is)
    (c.fire_if_enabled.ensures.step c.args.node f)

pub returns-clause-exact : goal.returns-clause-exact
returns-clause-exact g c = let (built, _, _) = c.self.invariant in
    let f = found g (goal.at.returns-clause-exact g c).After-find-at in
    let v : View = c.args.seat.now.me.0 in let l : ℕ = c.args.node in
    subst (λ (r : Run). FiresIfEnabled r v l c.fire_if_enabled.result)
    (ap (λ (x : Base). x.run) c.self.view_is)
    (fires_if_enabled c.self.inside.run.now v c.fire_if_enabled.new.seat.me.0 l
    c.fire_if_enabled.result built.over.sound (c.fire_if_enabled.ensures.step l f))
