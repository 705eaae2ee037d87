use Rattle.std.proofs.Common.{◌∙◌}
use Rattle.std.proofs.lemmas.List.{take_all}
use Rattle.ds_flat.proofs.Fronts.{front_more}
use Rattle.ds_flat.proofs.design_draft.rows.Goals as goal

pub loop-row-preserved : goal.loop-row-preserved
loop-row-preserved c =
    front_more c.args.rows.now c.loop-row.row-index c.row-item.result c.of.result
    c.loop-row.all.items c.push.new.self.items c.loop-row-test.true c.row-item.is
    (c.of.ensures ∙ (c.in_ok-bytes.ensures.items_if_clones_equal (λ x y same. same)
    ∙ c.get.ensures)) c.loop-row.invariant c.in_ok-push.ensures.items

pub returns : goal.returns
returns c =
    c.of-2.ensures ∙ (c.loop-row.invariant ∙ take_all _ _ c.loop-row-test.false)
