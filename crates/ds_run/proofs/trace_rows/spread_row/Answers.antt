use Rattle.std.proofs.Common.{◌≡◌, ◌∙◌, ◌+◌, ◌*◌, ℕ, List, length, take, drop, min, arith, ap, sym}
use Rattle.std.proofs.Math.Nat.{min_comm}
use Rattle.std.proofs.lemmas.List.{drop-drop, drop_min, take_min}
use Rattle.ds_base.specs.Values.{Row}
use Rattle.ds_base.specs.Word.{word_of}
use Rattle.ds_fabric.proofs.RowReads.{value-word}
use Rattle.ds_opening.proofs.Packs.{all_learnt, learns_part, number_of_part}
use Rattle.ds_rule.proofs.PlaceLaws.{width-is}
use Rattle.ds_rule.specs.Run.{Run}
use Rattle.ds_run.proofs.trace_rows.spread_row.Goals as goal

pub word-requires-clause-inside : goal.word-requires-clause-inside
word-requires-clause-inside c =
    omega (
      width-is c.args.recorded.now.shown.view.run c.args.slave,
      c.requires.wide,
      c.words_of-i-end.ensures,
      c.loop-i.auto.i-end,
      c.loop-i-test.true,
      arith,
    )

pub loop-i-preserved : goal.loop-i-preserved
loop-i-preserved c =
    let these : List ℕ = c.args.members.now in let run : Run = c.args.recorded.now.shown.view.run in
    let rest : List ℕ = c.loop-i.rest.now in let i : ℕ = c.loop-i.i in
    let part : List ℕ = c.split_at.result.0.now in
    let few : c.min.result ≡ min 32 (length rest) = c.min.ensures ∙ min_comm (length rest) 32 in
    let first : part ≡ take 32 (drop (32 * i) these) = c.split_at.ensures.front
    ∙ (ap (λ (n : ℕ). take n rest) few
    ∙ (take_min 32 rest ∙ ap (take 32) c.loop-i.invariant.rest)) in
    let next : 32 * i + 32 ≡ 32 * (i + 1) = omega arith in
    record {
      rest = c.split_at.ensures.back
          ∙ (ap (λ (n : ℕ). drop n rest) few
          ∙ (drop_min 32 rest
          ∙ (ap (drop 32) c.loop-i.invariant.rest
          ∙ (drop-drop 32 (32 * i) these ∙ ap (λ (n : ℕ). drop n these) next))));
      same = c.spread_word.ensures.same ∙ c.loop-i.invariant.same;
      learns = λ row shown. learns_part row these part i c.args.registers.now
          c.loop-i.registers c.spread_word.new.registers first
          (c.loop-i.invariant.learns row shown)
          (c.spread_word.ensures.value row
          (c.word.ensures ∙ (value-word run c.args.slave (c.args.k + 1) i
          ∙ (ap (λ (values : Row). word_of values i) (sym shown)
          ∙ sym (number_of_part row these part i first)))));
    }

pub returns-clause-value : goal.returns-clause-value
returns-clause-value c = λ row shown. all_learnt row c.args.members.now
    (32 * c.loop-i.i) c.args.registers.now c.loop-i.registers
    (omega (c.words_of-i-end.ensures, c.loop-i.auto.i-end, c.loop-i-test.false, arith))
    (c.loop-i.invariant.learns row shown)
