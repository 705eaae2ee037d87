use Rattle.std.proofs.Common.{arith, sym, ◌∙◌, ◌≡◌, ap}
use Rattle.ds_outside.proofs.Pens.{puts_nothing, with_put}
use Rattle.ds_astg.specs.Pieces.{all_below}
use Rattle.ds_astg.specs.Text.{arc_text}
use Rattle.ds_astg.proofs.TextPieces.{one_more}
use Rattle.ds_astg.proofs.GraphTextCases.{leads, none_before, none_behind}
use Rattle.ds_astg.proofs.line.put_targets.Goals as goal

pub loop-arc-init : goal.loop-arc-init
loop-arc-init g c = with_put (sym (none_before c.args.graph.now c.args.event c.args.start c.args.end c.requires)) (puts_nothing (g.P.Pen.writing c.args.pen.now))

pub loop-arc-preserved : goal.loop-arc-preserved
loop-arc-preserved g c =
    one_more (arc_text c.args.graph.now c.args.event) c.loop-arc.arc c.loop-arc.invariant
    (with_put (leads c.args.graph.now c.args.event c.args.start c.args.end c.loop-arc.arc c.requires (omega arith) (omega arith)) c.put_target.ensures)

pub returns : goal.returns
returns g c =
    let end : c.loop-arc.arc ≡ c.args.end = omega (arith, c.requires.order) in
    with_put (ap (all_below (arc_text c.args.graph.now c.args.event)) end ∙ sym (none_behind c.args.graph.now c.args.event c.args.start c.args.end c.requires)) c.loop-arc.invariant
