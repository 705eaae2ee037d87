use Rattle.std.proofs.Common.{◌≡◌, ◌∙◌, length, map, sym, arith}
use Rattle.std.proofs.lemmas.List.{length-map}
use Rattle.ds_lines.specs.Words.{texts}
use Rattle.ds_rows.specs.Nets.{net_text}
use Rattle.ds_groups.proofs.GroupsSoFar.{words_all, words_more, words_none, words_refused}
use Rattle.ds_groups.proofs.reader.take_words.Goals as goal

pub loop-i-init : goal.loop-i-init
loop-i-init c = words_none (map net_text c.args.named.now) c.args.line c.args.holders.now (texts c.args.words.now)
    (record { size = c.requires.one_each ∙ sym (length-map c.args.named.now net_text); within = c.requires.within })

pub take_word-requires-clause-one_each : goal.take_word-requires-clause-one_each
take_word-requires-clause-one_each c = c.loop-i.invariant.held.size ∙ length-map c.args.named.now net_text

pub loop-i-preserved : goal.loop-i-preserved
loop-i-preserved c =
    let n : length (texts c.args.words.now) ≡ length c.args.words.now = length-map c.args.words.now (λ w. w.now) in
    words_more (map net_text c.args.named.now) c.args.line c.args.holders.now (texts c.args.words.now) c.loop-i.i c.loop-i.holders c.take_word.new.holders c.word.result.now
    (omega (arith, c.loop-i-test.true)) c.word.ensures c.in-Ok.ensures c.loop-i.invariant

pub returns-in-Err-clause-value : goal.returns-in-Err-clause-value
returns-in-Err-clause-value c =
    let n : length (texts c.args.words.now) ≡ length c.args.words.now = length-map c.args.words.now (λ w. w.now) in
    words_refused (map net_text c.args.named.now) c.args.line c.args.holders.now (texts c.args.words.now) c.loop-i.i c.loop-i.holders c.take_word.new.holders c.word.result.now c.in-Err.why
    (omega (arith, c.loop-i-test.true)) c.word.ensures c.in-Err.ensures c.loop-i.invariant

pub returns-clause-value : goal.returns-clause-value
returns-clause-value c =
    let n : length (texts c.args.words.now) ≡ length c.args.words.now = length-map c.args.words.now (λ w. w.now) in
    words_all (map net_text c.args.named.now) c.args.line c.args.holders.now (texts c.args.words.now) c.loop-i.i c.loop-i.holders (omega (arith, c.loop-i-test.false)) c.loop-i.invariant
