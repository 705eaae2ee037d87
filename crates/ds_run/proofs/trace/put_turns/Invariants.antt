use Rattle.std.proofs.Common.{◌-◌, ◌≤◌}
use Rattle.ds_outside.specs.Pen.{Puts}
use Rattle.ds_run.specs.TraceLines.{AreLinesOf, HasLineBefore}
use Rattle.ds_run.proofs.trace.put_turns.Given as goal

abbrev pub invariant-blocks-2 : goal.invariant-blocks-2
invariant-blocks-2 g l = record {
  within : l.done ≤ l.stored.turns;
  line : HasLineBefore l.stored.plan.now l.stored.recorded.now l.stored.turns l.done l.line;
  lines : AreLinesOf l.stored.plan.now l.stored.recorded.now l.stored.turns l.stored.first 0 l.done
      (Puts (g.P.Pen.writing l.initial.pen) (g.P.Pen.writing l.pen));
}

abbrev pub decreases-blocks-2 : goal.decreases-blocks-2
decreases-blocks-2 g l = l.stored.turns - l.done
