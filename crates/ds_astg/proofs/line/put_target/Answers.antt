use Rattle.std.proofs.Common.{◌∙◌, ap, sym}
use Rattle.ds_marked.specs.declared.marked.Arc.{Arc}
use Rattle.ds_marked.specs.Log.{text_of_event}
use Rattle.ds_outside.proofs.Pens.{puts_on, with_put}
use Rattle.ds_astg.proofs.GraphTextCases.{arc_is, target_of_end, target_of_place}
use Rattle.ds_astg.proofs.line.put_target.Goals as goal

pub returns-then-is_further : goal.returns-then-is_further
returns-then-is_further g c =
    with_put (target_of_place c.args.graph.now c.args.arc (sym c.is_further.ensures ∙ c.if-is_further.true)) (puts_on c.put.ensures c.put_place.ensures)

pub returns : goal.returns
returns g c =
    let same = sym c.index-arcs-arc.is ∙ arc_is c.args.graph.now c.arcs-arcs.result.now c.args.arc c.index-arcs-arc.result c.arcs-arcs.ensures.arcs c.requires c.index-arcs-arc.is in
    with_put (target_of_end c.args.graph.now c.args.arc (sym c.is_further.ensures ∙ c.if-is_further.false))
    (puts_on c.put.ensures (with_put (ap (λ (a : Arc). text_of_event c.args.graph.now a.target) same) c.put_event.ensures))
