use Rattle.std.proofs.Common.{◌≡◌, ◌∙◌, ◌+◌, ℕ, List, length, map, take, ap, sym, arith, length-set}
use Rattle.std.specs.List.{range_with_len}
use Rattle.std.proofs.lemmas.List.{take_all, take_more_set}
use Rattle.ds_rows.specs.Log.{value_words}
use Rattle.ds_rule.specs.Run.{Run}
use Rattle.ds_run.specs.LatchRows.{word_values}
use Rattle.ds_run.proofs.RowPieces.{words_more}
use Rattle.ds_run.proofs.stored.copy_stored.Goals as goal

pub overflow_add-from : goal.overflow_add-from
overflow_add-from c = omega (
  arith,
  c.requires.few,
  c.loop-k-test.true,
  c.loop-k.auto.k-end,
  c.loop-k.invariant.size,
)

pub loop-k-preserved : goal.loop-k-preserved
loop-k-preserved c = let run : Run = c.args.recorded.now.shown.view.run in let k : ℕ = c.loop-k.k in
    let piece : List ℕ = c.loop-k.piece in let w : ℕ = c.word.result in
    let inv = c.loop-k.invariant in record {
      size = length-set piece k w ∙ inv.size;
      copied = take_more_set piece k w
          (omega (arith, c.loop-k-test.true, c.loop-k.auto.k-end, inv.size))
          ∙ words_more run c.args.latch c.args.i c.args.from k w (take k piece) c.word.ensures inv.copied;
    }

pub returns-clause-value : goal.returns-clause-value
returns-clause-value c = let piece : List ℕ = c.loop-k.piece in let k : ℕ = c.loop-k.k in
    let inv = c.loop-k.invariant in
    let e : k ≡ length c.args.piece.now =
    omega (arith, c.loop-k-test.false, c.loop-k.auto.k-end, inv.size) in
    sym (take_all k piece (omega (arith, e, inv.size)))
    ∙ (inv.copied ∙ ap (λ (n : ℕ). value_words 1 (map
    (word_values c.args.recorded.now.shown.view.run c.args.latch c.args.i)
    (range_with_len (c.args.from + 1) n))) e)
