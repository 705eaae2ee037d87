use Rattle.std.proofs.Common.{◌+◌, ◌*◌, min}
use Rattle.ds_outside.specs.Pen.{Puts}
use Rattle.ds_run.specs.TraceLines.{AreLinesOf, HasLineBefore}
use Rattle.ds_run.proofs.trace_block.put_block.Given as goal

abbrev pub invariant-loop-i : goal.invariant-loop-i
invariant-loop-i g l = record {
  line : HasLineBefore l.stored.plan.now l.stored.recorded.now l.stored.turns
      (min (l.from + l.i * l.turns) l.last) l.line;
  lines : AreLinesOf l.stored.plan.now l.stored.recorded.now l.stored.turns l.stored.first l.from
      (min (l.from + l.i * l.turns) l.last)
      (Puts (g.P.Pen.writing l.initial.pen) (g.P.Pen.writing l.pen));
}
