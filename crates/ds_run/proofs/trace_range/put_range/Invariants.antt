use Rattle.ds_outside.specs.Pen.{Puts}
use Rattle.ds_run.specs.TraceLines.{AreLinesOf, HasLineBefore}
use Rattle.ds_run.proofs.trace_range.put_range.Given as goal

abbrev pub invariant-loop-k : goal.invariant-loop-k
invariant-loop-k g l = record {
  line : HasLineBefore l.stored.plan.now l.stored.recorded.now l.stored.turns l.k l.line;
  lines : AreLinesOf l.stored.plan.now l.stored.recorded.now l.stored.turns l.stored.first
      l.fn.range.from l.k (Puts (g.P.Pen.writing l.initial.pen) (g.P.Pen.writing l.pen));
}
