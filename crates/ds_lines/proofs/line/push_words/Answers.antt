use Rattle.std.proofs.Common.{◌∙◌, ◌≡◌, ◌+◌, ◌++◌, ◌-◌, ◌∷◌, sym, ap, arith, take, drop, map, List, ℕ}
use Rattle.std.specs.List.{before_first}
use Rattle.ds_lines.specs.Draft.{is_stop}
use Rattle.ds_lines.specs.Line.{words_of}
use Rattle.ds_lines.proofs.LineSteps.{blank_stop, blank_words, word_at, one_more, pushed}
use Rattle.ds_lines.proofs.line.push_words.Goals as goal

pub reading-preserved-then-blank : goal.reading-preserved-then-blank
reading-preserved-then-blank c =
    let less = c.reading-test.true in
    let on = sym c.stops.ensures ∙ c.if-not-stops.true in
    let blank = sym c.blank.ensures ∙ c.if-blank.true in
    let stop = blank_stop c.args.text.now c.reading.place 0 less on in
    record {
      within = omega arith;
      so_far = omega arith;
      more = c.reading.invariant.more;
      words = ap (λ ws. map {B = List ℕ} (λ w. w.now) c.reading.words.items ++ ws) (sym (blank_words c.args.text.now c.reading.place 0 less on
          blank)) ∙ c.reading.invariant.words;
    }

pub overflow_add-end : goal.overflow_add-end
overflow_add-end c =
    let at = word_at c.args.text.now c.reading.place c.word_len.result 0 c.reading-test.true
    (sym c.stops.ensures ∙ c.if-not-stops.true) (sym c.blank.ensures ∙ c.if-blank.false)
    c.word_len.ensures in
    let within = at.within in
    omega arith

pub slice_bounds-push-end : goal.slice_bounds-push-end
slice_bounds-push-end c =
    let at = word_at c.args.text.now c.reading.place c.word_len.result 0 c.reading-test.true
    (sym c.stops.ensures ∙ c.if-not-stops.true) (sym c.blank.ensures ∙ c.if-blank.false)
    c.word_len.ensures in
    let within = at.within in
    omega arith

pub reading-preserved : goal.reading-preserved
reading-preserved c =
    let at = word_at c.args.text.now c.reading.place c.word_len.result 0 c.reading-test.true
    (sym c.stops.ensures ∙ c.if-not-stops.true) (sym c.blank.ensures ∙ c.if-blank.false)
    c.word_len.ensures in
    let stop = at.stop in
    let len : c.reading.place + c.word_len.result - c.reading.place ≡ c.word_len.result =
    omega arith in
    record {
      within = at.within;
      so_far = omega arith;
      more =
          let e = one_more c.reading.words.items c.push.new.self.items _ c.in_ok-push.ensures.items in
          omega (arith, e, c.reading.invariant.more);
      words = pushed c.reading.words.items c.push.new.self.items _ _ _ _ c.in_ok-push.ensures.items
          (at.words ∙ ap (λ n. take n (drop c.reading.place c.args.text.now) ∷ words_of
          (before_first is_stop (drop (c.reading.place + c.word_len.result) c.args.text.now)))
          (sym len)) c.reading.invariant.words;
    }
