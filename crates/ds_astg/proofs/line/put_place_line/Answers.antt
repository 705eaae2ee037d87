use Rattle.std.proofs.Common.{◌∙◌, ap, sym}
use Rattle.ds_marked.specs.declared.marked.Arc.{Arc}
use Rattle.ds_marked.specs.Log.{text_of_event}
use Rattle.ds_outside.proofs.Pens.{puts_nothing, puts_on, with_put}
use Rattle.ds_astg.proofs.GraphTextCases.{arc_is, no_place, one_place}
use Rattle.ds_astg.proofs.line.put_place_line.Goals as goal

pub returns-then-not-is_further : goal.returns-then-not-is_further
returns-then-not-is_further g c =
    with_put (no_place c.args.graph.now c.args.arc (sym c.is_further.ensures ∙ c.if-not-is_further.true)) (puts_nothing (g.P.Pen.writing c.args.pen.now))

pub returns : goal.returns
returns g c =
    let same = sym c.index-arcs-arc.is ∙ arc_is c.args.graph.now c.arcs-arcs.result.now c.args.arc c.index-arcs-arc.result c.arcs-arcs.ensures.arcs c.requires c.index-arcs-arc.is in
    with_put (one_place c.args.graph.now c.args.arc (sym c.is_further.ensures ∙ c.if-not-is_further.false))
    (puts_on (puts_on (puts_on c.put_place.ensures c.put.ensures) (with_put (ap (λ (a : Arc). text_of_event c.args.graph.now a.target) same) c.put_event.ensures)) c.put-2.ensures)
