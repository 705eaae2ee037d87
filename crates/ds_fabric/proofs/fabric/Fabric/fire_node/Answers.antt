use Rattle.std.proofs.Common.{◌∙◌, ℕ, ap, sym, subst}
use Rattle.ds_rule.specs.Run.{Run, next, IsEnabledInRun}
use Rattle.ds_rule.specs.Rule.{seen}
use Rattle.ds_fabric.specs.Base.{Base}
use Rattle.ds_fabric.specs.Indexed.{IsHistoryAt}
use Rattle.ds_fabric.specs.Stepped.{FiresWith}
use Rattle.ds_fabric.proofs.Finds.{indexed_same, stands_same, found_at}
use Rattle.ds_fabric.proofs.fabric.Fabric.fire_node.Given
use Rattle.ds_fabric.proofs.fabric.Fabric.fire_node.Goals as goal
use Rattle.ds_fabric.proofs.fabric.Fabric.fire_node.Goals.{After-find-at}

pub find-at-requires-clause-indexed : goal.find-at-requires-clause-indexed
find-at-requires-clause-indexed g c = let (room, pass) = c.requires.pass in (
  c.args.seat.now.me.0.run.nodes,
  room,
  indexed_same c.args.seat.now.me.0.run.nodes room c.args.histories.now.nodes.items
      c.as_slice-nodes.result.now c.args.histories.now.places.items c.as_slice.result.now
      c.as_slice-nodes.ensures.value c.as_slice.ensures.value pass.indexed,
)

pub find-at-requires-clause-there : goal.find-at-requires-clause-there
find-at-requires-clause-there g c = let (_, pass) = c.requires.pass in
    stands_same c.args.histories.now.nodes.items c.as_slice-nodes.result.now c.index-number.result
    c.args.node c.as_slice-nodes.ensures.value c.index-number.ensures
    (pass.keeps.found c.args.node c.requires.held)

-- the history that was found is the node's
found : (g : Given.Over) (c : After-find-at g)
    → IsHistoryAt c.args.histories.now.nodes.items c.find-at.result c.args.node
found g c = found_at c.args.histories.now.nodes.items c.as_slice-nodes.result.now c.find-at.result
    c.index-number.result c.args.node c.as_slice-nodes.ensures.value c.index-number.ensures
    c.find-at.ensures

pub fire_enabled-requires-clause-run : goal.fire_enabled-requires-clause-run
fire_enabled-requires-clause-run g c = let (_, run) = c.requires.table in
    run ∙ sym (ap (λ (x : Base). x.run) c.self.view_is)

pub returns-clause-pass : goal.returns-clause-pass
returns-clause-pass g c room p = c.fire_enabled.ensures.pass room p

pub fire_enabled-requires-clause-enabled : goal.fire_enabled-requires-clause-enabled
fire_enabled-requires-clause-enabled g c = let l : ℕ = c.args.node in (
  l,
  found g (goal.at.fire_enabled-requires-clause-enabled g c).After-find-at,
  subst (λ (r : Run). IsEnabledInRun r (seen c.args.seat.now.me.0)
      (next r l (seen c.args.seat.now.me.0 l))) (sym (ap (λ (x : Base). x.run) c.self.view_is))
      c.requires.due,
)

pub returns-clause-fires : goal.returns-clause-fires
returns-clause-fires g c = let f = found g (goal.at.returns-clause-fires g c).After-find-at in
    subst (λ (r : Run). FiresWith r c.args.seat.now.me.0 c.fire_enabled.new.seat.me.0 c.args.node
    c.fire_enabled.result) (ap (λ (x : Base). x.run) c.self.view_is)
    (c.fire_enabled.ensures.fires c.args.node f)
