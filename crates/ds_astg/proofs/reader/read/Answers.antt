use Rattle.std.proofs.Common.{◌∙◌, sym, ap, List, ℕ, arith}
use Rattle.ds_lines.specs.Words.{word_at}
use Rattle.ds_lines.specs.Line.{line_or_none}
use Rattle.ds_astg.specs.Line.{graph_head_of as head_in}
use Rattle.ds_astg.specs.Read.{graph_of_lines as graph_in}
use Rattle.ds_astg.proofs.Soundness.{step_sound}
use Rattle.ds_astg.proofs.LineSequence.{line_done}
use Rattle.ds_astg.proofs.reader.read.Goals as goal

pub loop-i-preserved : goal.loop-i-preserved
loop-i-preserved c =
    let line = line_or_none c.args.lines.now c.loop-i.i in
    record {
      so_far = line_done c.args.lines.now c.loop-i.i c.loop-i.state (graph_in c.args.lines.now) c.head_of-head.result
          (omega (arith, c.loop-i-test.true, c.count-i-end.ensures)) c.loop-i.invariant.so_far
          (c.head_of-head.ensures ∙ ap head_in (c.word.ensures ∙ ap (λ (ws : List (List ℕ)). word_at ws 0) c.line.ensures.value))
          (sym c.ends.ensures ∙ c.if-ends.false) c.read_line.new.state c.in_ok-read_line.ensures.ok;
      sound = step_sound c.head_of-head.result line.number line.words c.loop-i.state c.read_line.new.state c.loop-i.invariant.sound c.in_ok-read_line.ensures.ok;
    }
