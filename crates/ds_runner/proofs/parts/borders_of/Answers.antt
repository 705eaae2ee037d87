use Rattle.std.proofs.Common.{◌≡◌, ◌∙◌, ℕ, ap, arith, subst}
use Rattle.ds_rule.specs.Run.{Run}
use Rattle.ds_fabric.specs.Base.{Base}
use Rattle.ds_runner.specs.Parts.{AreBorders}
use Rattle.ds_runner.proofs.BorderLemmas.{are_borders, one_longer, one_more_border}
use Rattle.ds_runner.proofs.parts.borders_of.Goals as goal

pub loop-part-preserved : goal.loop-part-preserved
loop-part-preserved g c = let i = c.loop-part.invariant in let items = c.push_reserved.ensures.items in (
  one_more_border c.loop-part.borders.items c.push_reserved.new.self.items c.loop-part.at.node c.reach-at.result.node i.0 c.reach-at.ensures.up items,
  omega (arith, one_longer c.loop-part.borders.items c.push_reserved.new.self.items c.reach-at.result.node items, i.1),
  c.reach-at.ensures.near,
  omega (arith, c.push_reserved.ensures.capacity, i.3),
)

pub returns : goal.returns
returns g c = let i = c.loop-part.invariant in let (same, _) = c.workload.invariant in
    let nodes : c.nodes.result ≡ c.args.workload.now.run.nodes =
    c.nodes.ensures ∙ ap (λ (r : Run). r.nodes) (same ∙ ap (λ (b : Base). b.run) c.workload.view_is) in
    record {
      ok = subst (λ (n : ℕ). AreBorders n c.args.parts c.push_reserved-2.new.self.items) nodes
          (are_borders c.nodes.result c.args.parts c.loop-part.at.node c.loop-part.borders.items c.push_reserved-2.new.self.items
          i.0 (omega (arith, i.1, c.loop-part-test.false, c.loop-part.auto.part-end)) (omega (arith, i.2, nodes))
          c.push_reserved-2.ensures.items);
    }
