use Rattle.std.proofs.Common.{◌∙◌, ap, sym, arith, List, ℕ, Bor}
use Rattle.std.proofs.lemmas.List.{drop_all}
use Rattle.ds_lines.specs.Words.{texts}
use Rattle.ds_blif.specs.Form.{has_bad_pairs as has_bad_pairs_word}
use Rattle.ds_blif.proofs.UsePairs.{pairs_not, pairs_twice, pairs_more}
use Rattle.ds_blif.proofs.subckt.has_bad_pairs.Goals as goal

pub loop-word-init : goal.loop-word-init
loop-word-init c = ap (λ (formals : List (List ℕ)). has_bad_pairs_word formals
    (texts c.args.words.now)) c.new-formals.ensures

pub returns-then-not-is_pair : goal.returns-then-not-is_pair
returns-then-not-is_pair c = sym (sym c.loop-word.invariant ∙ pairs_not c.loop-word.formals
    c.args.words.now c.loop-word.word-index c.loop-word-test.true
    (sym c.is_pair.ensures ∙ c.if-not-is_pair.true))

pub returns-then-not-added : goal.returns-then-not-added
returns-then-not-added c = sym (sym c.loop-word.invariant ∙ pairs_twice c.loop-word.formals
    c.args.words.now c.loop-word.word-index c.formal.result.now c.in_ok-added.added
    c.loop-word-test.true (sym c.is_pair.ensures ∙ c.if-not-is_pair.false) c.formal.ensures
    c.in_ok-added.ensures.added c.if-not-added.true)

pub loop-word-preserved : goal.loop-word-preserved
loop-word-preserved c = pairs_more c.loop-word.formals c.insert.new.self c.args.words.now
    c.loop-word.word-index c.formal.result.now c.in_ok-added.added c.loop-word-test.true
    (sym c.is_pair.ensures ∙ c.if-not-is_pair.false) c.formal.ensures c.in_ok-added.ensures.added
    c.if-not-added.false c.in_ok-added.ensures.ok ∙ c.loop-word.invariant

pub returns : goal.returns
returns c = sym (sym c.loop-word.invariant
    ∙ ap (λ (ws : List (Bor (List ℕ))). has_bad_pairs_word c.loop-word.formals (texts ws))
    (drop_all c.loop-word.word-index c.args.words.now (omega (arith, c.loop-word-test.false))))
