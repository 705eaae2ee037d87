use Rattle.ds_outside.specs.Pen.{Puts}
use Rattle.ds_astg.specs.Pieces.{all_below}
use Rattle.ds_astg.specs.Text.{arc_text}
use Rattle.ds_astg.proofs.line.put_targets.Given as goal

abbrev pub invariant-loop-arc : goal.invariant-loop-arc
invariant-loop-arc g l =
    Puts (g.P.Pen.writing l.initial.pen) (g.P.Pen.writing l.pen)
    (all_below (arc_text l.graph l.fn.event) l.arc)
