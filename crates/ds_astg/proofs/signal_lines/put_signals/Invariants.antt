use Rattle.std.proofs.Common.{take}
use Rattle.ds_outside.specs.Pen.{Puts}
use Rattle.ds_astg.specs.Text.{signals_text}
use Rattle.ds_astg.proofs.signal_lines.put_signals.Given as goal

abbrev pub invariant-loop-event : goal.invariant-loop-event
invariant-loop-event g l =
    Puts (g.P.Pen.writing l.initial.pen) (g.P.Pen.writing l.pen)
    (signals_text (take l.event-index l.events))
