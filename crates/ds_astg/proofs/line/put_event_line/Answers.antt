use Rattle.std.proofs.Common.{arith, sym, ◌<◌}
use Rattle.std.specs.Prelude.{length}
use Rattle.ds_outside.proofs.Pens.{puts_nothing, puts_on, with_put}
use Rattle.ds_astg.specs.Pieces.{all_below}
use Rattle.ds_marked.specs.Log.{text_of_event}
use Rattle.ds_astg.specs.Text.{arc_text}
use Rattle.ds_astg.proofs.TextPieces.{line_some, some_piece}
use Rattle.ds_astg.proofs.GraphTextCases.{no_line, some_target}
use Rattle.ds_astg.proofs.line.put_event_line.Goals as goal

pub returns-then-range : goal.returns-then-range
returns-then-range g c =
    with_put (no_line c.args.graph.now c.args.event c.arcs_from-range.result.start c.arcs_from-range.result.end c.arcs_from-range.ensures c.if-range.true) (puts_nothing (g.P.Pen.writing c.args.pen.now))

pub returns : goal.returns
returns g c =
    let range = c.arcs_from-range.ensures in
    let some : c.arcs_from-range.result.start < c.arcs_from-range.result.end = (let apart = c.if-range.false in let order = range.order in omega arith) in
    let text = arc_text c.args.graph.now c.args.event in
    with_put (sym (line_some (text_of_event c.args.graph.now c.args.event) (all_below (arc_text c.args.graph.now c.args.event) (length c.args.graph.now.arcs))
    (some_piece (arc_text c.args.graph.now c.args.event) (length c.args.graph.now.arcs) c.arcs_from-range.result.start (let size = range.size in omega arith)
    (some_target c.args.graph.now c.args.event c.arcs_from-range.result.start c.arcs_from-range.result.end c.arcs_from-range.result.start range (omega arith) some))))
    (puts_on (puts_on c.put_event.ensures c.put_targets.ensures) c.put.ensures)
