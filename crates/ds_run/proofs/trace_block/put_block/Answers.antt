use Rattle.std.proofs.Common.{◌≡◌, ◌∙◌, ◌+◌, ◌*◌, ℕ, List, min, arith, sym, ap, subst}
use Rattle.ds_latch.specs.Plan.{Planned}
use Rattle.ds_fabric.specs.Showing.{Recorder}
use Rattle.ds_outside.specs.Pen.{Puts}
use Rattle.ds_outside.proofs.Pens.{puts_nothing, puts_on}
use Rattle.ds_run.specs.TraceLines.{AreLinesOf, HasLineBefore}
use Rattle.ds_run.proofs.TraceLines.{lines_on, no_lines}
use Rattle.ds_run.proofs.trace_block.put_block.Goals as goal

pub loop-i-init : goal.loop-i-init
loop-i-init g c =
    let p : Planned = c.args.stored.now.plan.now in
    let r : Recorder = c.args.stored.now.recorded.now in
    let turns : ℕ = c.args.stored.now.turns in
    let none = Puts (g.P.Pen.writing c.args.pen.now) (g.P.Pen.writing c.args.pen.now) in
    let at : c.args.from ≡ min (c.args.from + 0 * c.args.sharing.now.turns) turns = omega arith in
    record {
      line = subst (λ (k : ℕ). HasLineBefore p r turns k c.args.line.now) at c.requires.line;
      lines = subst (λ (k : ℕ). AreLinesOf p r turns c.args.stored.now.first c.args.from k none) at
          (no_lines p r turns c.args.stored.now.first c.args.from none
          (puts_nothing (g.P.Pen.writing c.args.pen.now)));
    }

pub loop-i-preserved : goal.loop-i-preserved
loop-i-preserved g c =
    let p : Planned = c.args.stored.now.plan.now in
    let r : Recorder = c.args.stored.now.recorded.now in
    let turns : ℕ = c.args.stored.now.turns in
    let first : ℕ = c.args.stored.now.first in
    let (from, to) = c.part.ensures.value in
    let one = Puts (g.P.Pen.writing c.loop-i.pen) (g.P.Pen.writing c.put_part.new.pen) in
    let each = c.args.sharing.now.turns in
    record {
      line = subst (λ (k : ℕ). HasLineBefore p r turns k c.put_part.new.line) to
          c.put_part.ensures.line;
      lines = lines_on p r turns first c.args.from (min (c.args.from + c.loop-i.i * each) turns)
          (min (c.args.from + (c.loop-i.i + 1) * each) turns)
          (Puts (g.P.Pen.writing c.args.pen.now) (g.P.Pen.writing c.loop-i.pen)) one
          (Puts (g.P.Pen.writing c.args.pen.now) (g.P.Pen.writing c.put_part.new.pen))
          (λ a b was now. puts_on was now) c.loop-i.invariant.lines
          (subst (λ (k : ℕ). AreLinesOf p r turns first (min (c.args.from + c.loop-i.i * each) turns) k one) to
          (subst (λ (k : ℕ). AreLinesOf p r turns first k c.part.result.to one) from
          c.put_part.ensures.lines));
    }

pub returns-clause-line : goal.returns-clause-line
returns-clause-line g c =
    let p : Planned = c.args.stored.now.plan.now in
    let r : Recorder = c.args.stored.now.recorded.now in
    let turns : ℕ = c.args.stored.now.turns in
    let all : c.loop-i.i ≡ c.args.sharing.now.parts = omega arith in
    let at : min (c.args.from + c.loop-i.i * c.args.sharing.now.turns) turns ≡ c.border-2.result =
    ap (λ (i : ℕ). min (c.args.from + i * c.args.sharing.now.turns) turns) all
    ∙ sym c.border-2.ensures in
    subst (λ (k : ℕ). HasLineBefore p r turns k c.loop-i.line) at c.loop-i.invariant.line
