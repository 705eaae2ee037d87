use Rattle.std.proofs.Common.{◌∙◌, arith, length-take}
use Rattle.ds_opening.proofs.Packs.{number_of_part}
use Rattle.ds_opening.proofs.packed.word_at.Goals as goal

pub word_from-requires-clause-few : goal.word_from-requires-clause-few
word_from-requires-clause-few c = rw (c.nets_of_word.ensures, length-take) (omega arith)

pub returns : goal.returns
returns c = c.word_from.ensures ∙ number_of_part c.args.nets.now c.args.these.now
    c.nets_of_word.result.now c.args.i c.nets_of_word.ensures
