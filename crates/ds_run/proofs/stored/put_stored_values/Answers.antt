use Rattle.std.proofs.Common.{◌≡◌, ◌∙◌, ◌+◌, ◌/◌, ◌<◌, ◌≤◌, ◌++◌, ℕ, List, length, map, take, drop, ap, sym, arith}
use Rattle.std.specs.List.{range_with_len}
use Rattle.std.proofs.lemmas.List.{length-take-le, take_at}
use Rattle.ds_design.specs.Trace.{value_text, values_text}
use Rattle.ds_rows.specs.Log.{at_place, value_words}
use Rattle.ds_outside.proofs.Pens.{puts_nothing, puts_on, with_put}
use Rattle.ds_rule.specs.Run.{Run}
use Rattle.ds_rule.specs.Words.{node_values}
use Rattle.ds_run.specs.LatchRows.{word_values}
use Rattle.ds_run.proofs.RowPieces.{text_all, text_more, values_of}
use Rattle.ds_run.proofs.stored.put_stored_values.Goals as goal

pub writing-init : goal.writing-init
writing-init g c = record {
  within = omega arith;
  written = puts_nothing (g.P.Pen.writing c.args.pen.now);
}

pub writing-preserved : goal.writing-preserved
writing-preserved g c = let run : Run = c.args.recorded.now.shown.view.run in
    let l : ℕ = c.args.latch in let place : ℕ = c.args.place in let done : ℕ = c.writing.done in
    let count : ℕ = c.min-count.result in let piece : List ℕ = c.writing.piece in
    let new : List ℕ = c.copy_stored.new.piece in
    let some : 0 < count = omega arith in
    let room : count ≤ length piece = omega arith in
    let long : length (take count piece) ≡ count = length-take-le count piece room in
    let words : take count (new ++ drop count piece)
    ≡ value_words 1 (map (word_values run l (place / 32)) (range_with_len (done + 1) count)) =
    take_at new (drop count piece) count (c.copy_stored.ensures.same ∙ long)
    ∙ (c.copy_stored.ensures.value ∙ ap (λ (n : ℕ). value_words 1
    (map (word_values run l (place / 32)) (range_with_len (done + 1) n))) long) in
    record {
      within = omega arith;
      written = with_put (text_more run l place done count some)
          (puts_on c.writing.invariant.written (c.put_stored.ensures
          (map (word_values run l (place / 32)) (range_with_len (done + 1) count)) words));
    }

pub returns-then-rows-eq0 : goal.returns-then-rows-eq0
returns-then-rows-eq0 g c = let run : Run = c.args.recorded.now.shown.view.run in
    let l : ℕ = c.args.latch in
    with_put (ap (λ (n : ℕ). values_text (at_place c.args.place (map (node_values run l)
    (range_with_len 1 n)))) (sym c.if-rows-eq0.true ∙ c.stored-rows.ensures.value)) c.put.ensures

pub returns : goal.returns
returns g c = let run : Run = c.args.recorded.now.shown.view.run in let l : ℕ = c.args.latch in
    let all : c.writing.done ≡ c.stored-rows.result = omega arith in
    with_put (ap (λ (n : ℕ). map value_text (map (values_of run l c.args.place)
    (range_with_len 1 n))) all ∙ (text_all run l c.args.place c.stored-rows.result (omega arith)
    ∙ ap (λ (n : ℕ). values_text (at_place c.args.place (map (node_values run l)
    (range_with_len 1 n)))) c.stored-rows.ensures.value)) c.writing.invariant.written
