use Rattle.std.proofs.Common.{◌≡◌, ◌∙◌, ◌<◌, ℕ, List, arith, sym, subst}
use Rattle.ds_latch.specs.Plan.{Planned}
use Rattle.ds_fabric.specs.Showing.{Recorder}
use Rattle.ds_outside.specs.Pen.{Puts}
use Rattle.ds_outside.proofs.Pens.{puts_nothing, puts_on}
use Rattle.ds_run.specs.TraceLines.{AreLinesOf, AreRegistersBefore}
use Rattle.ds_run.proofs.TraceLines.{all_lines, lines_on, no_lines}
use Rattle.ds_run.proofs.trace.put_turns.Goals as goal

pub returns-then-sharing-lt2 : goal.returns-then-sharing-lt2
returns-then-sharing-lt2 g c = λ vectors is.
    all_lines c.args.stored.now.plan.now c.args.stored.now.recorded.now c.args.stored.now.turns
    c.args.stored.now.first vectors c.put_range.new.line.registers
    (Puts (g.P.Pen.writing c.args.pen.now) (g.P.Pen.writing c.put_range.new.pen)) is
    c.put_range.ensures.line.registers c.put_range.ensures.lines

pub blocks-2-init : goal.blocks-2-init
blocks-2-init g c =
    let none = Puts (g.P.Pen.writing c.args.pen.now) (g.P.Pen.writing c.args.pen.now) in
    record {
      within = omega arith;
      line = record {
        has = c.requires.line;
        registers = λ vectors is values. c.requires.registers ∙ sym values.clocked.starts;
      };
      lines = no_lines c.args.stored.now.plan.now c.args.stored.now.recorded.now
          c.args.stored.now.turns c.args.stored.now.first 0 none
          (puts_nothing (g.P.Pen.writing c.args.pen.now));
    }

pub blocks-2-preserved : goal.blocks-2-preserved
blocks-2-preserved g c =
    let (more, within) = c.put_block-done.ensures.more in
    record {
      within = within;
      line = c.put_block-done.ensures.line;
      lines = lines_on c.args.stored.now.plan.now c.args.stored.now.recorded.now
          c.args.stored.now.turns c.args.stored.now.first 0 c.blocks-2.done c.put_block-done.result
          (Puts (g.P.Pen.writing c.args.pen.now) (g.P.Pen.writing c.blocks-2.pen))
          (Puts (g.P.Pen.writing c.blocks-2.pen) (g.P.Pen.writing c.put_block-done.new.pen))
          (Puts (g.P.Pen.writing c.args.pen.now) (g.P.Pen.writing c.put_block-done.new.pen))
          (λ a b was now. puts_on was now) c.blocks-2.invariant.lines c.put_block-done.ensures.lines;
    }

pub returns : goal.returns
returns g c =
    let p : Planned = c.args.stored.now.plan.now in
    let r : Recorder = c.args.stored.now.recorded.now in
    let turns : ℕ = c.args.stored.now.turns in
    let text = Puts (g.P.Pen.writing c.args.pen.now) (g.P.Pen.writing c.blocks-2.pen) in
    let all : c.blocks-2.done ≡ turns = omega (c.blocks-2.invariant.within, arith) in
    λ vectors is. all_lines p r turns c.args.stored.now.first vectors c.blocks-2.line.registers text is
    (subst (λ (k : ℕ). AreRegistersBefore p r turns k c.blocks-2.line.registers) all
    c.blocks-2.invariant.line.registers)
    (subst (λ (k : ℕ). AreLinesOf p r turns c.args.stored.now.first 0 k text) all
    c.blocks-2.invariant.lines)
