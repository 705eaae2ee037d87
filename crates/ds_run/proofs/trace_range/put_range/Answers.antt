use Rattle.std.proofs.Common.{◌∙◌, ◌<◌, ◌+◌, ℕ, List, length, sym, subst, arith}
use Rattle.ds_latch.specs.Node.{Split}
use Rattle.ds_latch.specs.Plan.{Planned}
use Rattle.ds_fabric.specs.Showing.{Recorder}
use Rattle.ds_outside.specs.Pen.{Puts}
use Rattle.ds_outside.proofs.Pens.{puts_nothing, puts_on}
use Rattle.ds_run.specs.TraceRows.{HasLine}
use Rattle.ds_run.proofs.NodeRecords.{has_slaves, out_stored, out_wide}
use Rattle.ds_run.proofs.FinishedTurns.{line_read}
use Rattle.ds_run.proofs.TraceLines.{no_lines, one_more, registers_after}
use Rattle.ds_run.proofs.trace_range.put_range.Goals as goal

pub loop-k-init : goal.loop-k-init
loop-k-init g c = record {
  line = c.requires.line;
  lines = no_lines c.args.stored.now.plan.now c.args.stored.now.recorded.now c.args.stored.now.turns
      c.args.stored.now.first c.args.range.from
      (Puts (g.P.Pen.writing c.args.pen.now) (g.P.Pen.writing c.args.pen.now))
      (puts_nothing (g.P.Pen.writing c.args.pen.now));
}

pub row-requires-clause-stored : goal.row-requires-clause-stored
row-requires-clause-stored g c =
    let (vectors, (finished_run, many)) = c.requires.stored in
    let below : c.loop-k.k < length vectors = omega (arith, many) in
    let stored = out_stored c.args.stored.now.plan.now vectors c.args.stored.now.recorded.now finished_run c.loop-k.k below in
    rw c.latch.ensures stored

pub row-requires-clause-length : goal.row-requires-clause-length
row-requires-clause-length g c =
    let (vectors, (finished_run, many)) = c.requires.stored in
    let wide = out_wide c.args.stored.now.plan.now vectors c.args.stored.now.recorded.now finished_run in
    rw c.latch.ensures (c.loop-k.invariant.line.has.outputs ∙ sym wide)

pub copy_stored-requires-clause-rows : goal.copy_stored-requires-clause-rows
copy_stored-requires-clause-rows g c =
    let (vectors, (finished_run, many)) = c.requires.stored in
    let slaves = has_slaves c.args.stored.now.plan.now vectors c.args.stored.now.recorded.now finished_run (c.loop-k.k + 1)
    (omega (arith, many)) in
    rw c.latches.ensures slaves

pub copy_stored-requires-clause-line : goal.copy_stored-requires-clause-line
copy_stored-requires-clause-line g c =
    let (vectors, (finished_run, many)) = c.requires.stored in
    line_read c.args.stored.now.plan.now vectors c.args.stored.now.recorded.now finished_run c.loop-k.k
    (omega (arith, many)) c.latches.result.now c.loop-k.line c.latch.result c.row.new.into c.latches.ensures
    c.loop-k.invariant.line.has c.latch.ensures c.row.ensures

pub loop-k-preserved : goal.loop-k-preserved
loop-k-preserved g c =
    let p : Planned = c.args.stored.now.plan.now in
    let r : Recorder = c.args.stored.now.recorded.now in
    let turns : ℕ = c.args.stored.now.turns in
    let inside : c.loop-k.k < turns = omega arith in
    record {
      line = record {
        has = subst (λ (q : Split). HasLine q c.copy_stored.new.line) c.latches.ensures
            c.copy_stored.ensures.line;
        registers = registers_after p r turns c.args.stored.now.first c.loop-k.k c.latches.result.now
            c.copy_stored.new.line.registers inside c.latches.ensures c.copy_stored.ensures.gathered;
      };
      lines = one_more p r turns c.args.stored.now.first c.args.range.from c.loop-k.k c.latches.result.now
          c.latch.result c.row.new.into c.loop-k.line.registers c.copy_stored.new.line.registers
          (Puts (g.P.Pen.writing c.args.pen.now) (g.P.Pen.writing c.loop-k.pen))
          (Puts (g.P.Pen.writing c.args.pen.now) (g.P.Pen.writing c.put_trace_line.new.pen))
          inside c.latch.ensures c.row.ensures c.loop-k.invariant.line.registers c.latches.ensures
          c.copy_stored.ensures.gathered (λ text before. puts_on before c.put_trace_line.ensures)
          c.loop-k.invariant.lines;
    }
