use Rattle.std.proofs.Common.{◌∙◌, ap, map, arith, List, ℕ, Bor}
use Rattle.std.proofs.lemmas.List.{take_all}
use Rattle.ds_lines.specs.Words.{texts}
use Rattle.ds_blif.specs.Parts.{pair_of as pair_of_word}
use Rattle.ds_blif.proofs.UsePairs.{listed_more}
use Rattle.ds_blif.proofs.part.pairs_of.Goals as goal

pub loop-word-init : goal.loop-word-init
loop-word-init c = c.in_ok-pairs.ensures.items

pub loop-word-preserved : goal.loop-word-preserved
loop-word-preserved c = listed_more c.args.words.now c.loop-word.word-index
    c.pair_of.result c.loop-word.pairs.items c.push.new.self.items c.loop-word-test.true
    c.pair_of.ensures c.loop-word.invariant c.in_ok-push.ensures.items

pub returns : goal.returns
returns c = c.of.ensures ∙ (c.loop-word.invariant
    ∙ ap (λ (ws : List (Bor (List ℕ))). map pair_of_word (texts ws))
    (take_all c.loop-word.word-index c.args.words.now (omega (arith, c.loop-word-test.false))))
