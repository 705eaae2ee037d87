use Rattle.std.proofs.Common.{◌≡◌, ◌∙◌, ◌+◌, ◌-◌, ◌<◌, ℕ, List, Option, Some, IfSome, arith, length, subst, sym, ap}
use Rattle.ds_latch.specs.Node.{Split}
use Rattle.ds_outside.specs.Pen.{Puts, Writing}
use Rattle.ds_outside.proofs.Pens.{with_put}
use Rattle.ds_run.specs.TraceRows.{HasLine}
use Rattle.ds_run.specs.declared.lines_text.LinesText.{LinesText}
use Rattle.ds_run.proofs.NodeRecords.{has_slaves}
use Rattle.ds_run.proofs.TraceLines.{put_text, registers_after}
use Rattle.ds_run.proofs.trace_block.put_part.Goals as goal

pub copy_stored-requires-clause-rows : goal.copy_stored-requires-clause-rows
copy_stored-requires-clause-rows g c =
    let (vectors, (finished_run, many)) = c.requires.stored in
    let slaves = has_slaves c.args.stored.now.plan.now vectors c.args.stored.now.recorded.now finished_run
    (c.args.range.to - 1 + 1) (omega (arith, many)) in
    rw c.latches.ensures slaves

pub returns-then-range-clause-lines : goal.returns-then-range-clause-lines
returns-then-range-clause-lines g c =
    put_text c.args.stored.now.plan.now c.args.stored.now.recorded.now c.args.stored.now.turns
    c.args.stored.now.first c.args.range.from c.args.range.to c.args.text.now c.in-Some.text
    c.bytes.result.now _ _ c.in-Some.is c.bytes.ensures c.put.ensures c.requires.text

pub returns-then-range-clause-line : goal.returns-then-range-clause-line
returns-then-range-clause-line g c =
    let after = registers_after c.args.stored.now.plan.now c.args.stored.now.recorded.now
    c.args.stored.now.turns c.args.stored.now.first (c.args.range.to - 1)
    c.latches.result.now c.copy_stored.new.line.registers (omega arith) c.latches.ensures
    c.copy_stored.ensures.gathered in
    let behind : c.args.range.to - 1 + 1 ≡ c.args.range.to = omega arith in
    record {
      has = subst (λ (s : Split). HasLine s c.copy_stored.new.line) c.latches.ensures
          c.copy_stored.ensures.line;
      registers = λ vectors is values. after vectors is values ∙ ap values.state behind;
    }

pub returns-else-range-clause-lines : goal.returns-else-range-clause-lines
returns-else-range-clause-lines g c =
    put_text c.args.stored.now.plan.now c.args.stored.now.recorded.now c.args.stored.now.turns
    c.args.stored.now.first c.args.range.from c.args.range.to c.args.text.now c.in-Some.text
    c.bytes.result.now _ _ c.in-Some.is c.bytes.ensures c.put.ensures c.requires.text
