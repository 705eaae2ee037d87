use Rattle.std.proofs.Common.{◌∙◌, ◌<◌, ◌*◌, ℕ, arith, length, subst, sym}
use Rattle.std.specs.Prelude.{All}
use Rattle.ds_opening.proofs.Packs.{all_learnt, learns_part, others_part, part_within, word_is_number}
use Rattle.std.proofs.lemmas.List.{take_all}
use Rattle.ds_opening.proofs.packed.put_words.Goals.{then-not-put_word, else-not-put_word}
use Rattle.ds_opening.proofs.packed.put_words.Goals as goal

pub put_word-requires-in-loop-i : goal.put_word-requires-in-loop-i
put_word-requires-in-loop-i c = record {
  within = part_within c.args.these.now c.nets_of_word.result.now c.loop-i.i (length c.loop-i.nets)
      c.nets_of_word.ensures (subst (λ (n : ℕ). All (λ net. net < n) c.args.these.now)
      (sym c.loop-i.invariant.same) c.requires.within);
}

pub loop-i-preserved : goal.loop-i-preserved
loop-i-preserved c = record {
  same = c.put_word-in-loop-i.ensures.same ∙ c.loop-i.invariant.same;
  learns = λ foreseen is. learns_part foreseen c.args.these.now c.nets_of_word.result.now c.loop-i.i
      c.args.nets.now c.loop-i.nets c.put_word-in-loop-i.new.nets c.nets_of_word.ensures
      (c.loop-i.invariant.learns foreseen is)
      (c.put_word-in-loop-i.ensures.value foreseen (word_is_number foreseen c.args.words.now c.args.these.now
      c.nets_of_word.result.now c.loop-i.i is (omega arith) c.nets_of_word.ensures));
  others = others_part c.args.these.now c.nets_of_word.result.now c.loop-i.i c.args.nets.now
      c.loop-i.nets c.put_word-in-loop-i.new.nets c.nets_of_word.ensures c.loop-i.invariant.others
      c.put_word-in-loop-i.ensures.others;
  stayed = λ so. elim c.if-not-put_word.branch [
    | then-not-put_word w ↦ absurd (cc)
    | else-not-put_word w ↦ λ net.
        c.put_word-in-loop-i.ensures.stayed w.if-not-put_word.false net
        ∙ c.loop-i.invariant.stayed (sym w.stayed-is ∙ so) net
  ];
}

pub returns-clause-value : goal.returns-clause-value
returns-clause-value c = λ foreseen is. all_learnt foreseen c.args.these.now (32 * c.loop-i.i)
    c.args.nets.now c.loop-i.nets (omega (c.requires.words, c.loop-i-test.false, arith))
    (c.loop-i.invariant.learns foreseen is)

pub returns-then-words-eq1-clause-value : goal.returns-then-words-eq1-clause-value
returns-then-words-eq1-clause-value c = λ foreseen is. c.put_word.ensures.value foreseen
    (word_is_number foreseen c.args.words.now c.args.these.now c.args.these.now 0 is (omega arith)
    (sym (take_all 32 c.args.these.now (omega (c.requires.words, arith)))))
