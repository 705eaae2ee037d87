use Rattle.std.proofs.Common.{◌≡◌, ◌∙◌, ◌<◌, ℕ, List, length, get_or, set, refl, sym, arith, subst, ◌+◌}
use Rattle.std.proofs.lemmas.List.{get_or_default}
use Rattle.ds_slices.proofs.ColumnWords.{AreColumnWords, column_more}
use Rattle.ds_slices.proofs.columns.set_columns.Goals as goal

pub loop-i-init : goal.loop-i-init
loop-i-init c = record { size = refl; told = λ i below. absurd (omega arith); others = λ net apart. refl }

pub loop-i-preserved : goal.loop-i-preserved
loop-i-preserved c =
    let i : ℕ = c.loop-i.i in
    let columns : List ℕ = c.args.columns.now in
    let inside : i < length columns = c.loop-i-test.true in
    let net_is : c.index.result ≡ get_or columns i 0 = c.index.ensures ∙ (c.index-columns-i.is ∙ get_or_default columns i c.index-columns-i.result 0 inside) in
    let within : get_or columns i 0 < length c.loop-i.words =
    (let w : get_or columns i 0 < length c.args.words.now = c.requires.within i 0 inside in let s : length c.loop-i.words ≡ length c.args.words.now = c.loop-i.invariant.size in omega arith) in
    subst (λ (n : ℕ). AreColumnWords c.args.vectors.now.rows c.args.from columns c.args.words.now (set c.loop-i.words n c.column_word.result) (i + 1)) (sym net_is)
    (column_more c.args.vectors.now.rows c.args.from columns c.args.words.now c.loop-i.words i c.column_word.result inside c.requires.once within c.column_word.ensures c.loop-i.invariant)

pub returns : goal.returns
returns c =
    let all : c.loop-i.i ≡ length c.args.columns.now = omega arith in
    record {
      same = c.loop-i.invariant.size;
      set = λ i below. c.loop-i.invariant.told i (omega arith);
      others = λ net apart. c.loop-i.invariant.others net (λ i below. apart i (omega arith));
    }
