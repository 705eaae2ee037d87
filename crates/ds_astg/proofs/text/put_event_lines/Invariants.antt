use Rattle.ds_outside.specs.Pen.{Puts}
use Rattle.ds_astg.specs.Pieces.{all_below}
use Rattle.ds_astg.specs.Text.{event_line}
use Rattle.ds_astg.proofs.text.put_event_lines.Given as goal

abbrev pub invariant-loop-event : goal.invariant-loop-event
invariant-loop-event g l =
    Puts (g.P.Pen.writing l.initial.pen) (g.P.Pen.writing l.pen)
    (all_below (event_line l.graph) l.event)
