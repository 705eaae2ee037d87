use Rattle.ds_outside.specs.Pen.{Puts}
use Rattle.ds_astg.specs.Pieces.{all_below}
use Rattle.ds_astg.specs.Text.{entry_text}
use Rattle.ds_astg.proofs.text.put_entries.Given as goal

abbrev pub invariant-loop-arc : goal.invariant-loop-arc
invariant-loop-arc g l =
    Puts (g.P.Pen.writing l.initial.pen) (g.P.Pen.writing l.pen)
    (all_below (entry_text l.graph) l.arc)
