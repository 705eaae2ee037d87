use Rattle.std.proofs.Common.{◌∙◌, arith}
use Rattle.ds_cover.proofs.StoredTables.{part_words, rest_words}
use Rattle.ds_cover.proofs.value_word.word_at.Goals as goal

pub returns-then-inputs-first-gt64 : goal.returns-then-inputs-first-gt64
returns-then-inputs-first-gt64 c = c.word_from.ensures ∙ part_words c.args.nets.now c.args.inputs.now c.args.first

pub returns-else-inputs-first-gt64 : goal.returns-else-inputs-first-gt64
returns-else-inputs-first-gt64 c =
    c.word_from-else-inputs-first-gt64.ensures ∙ rest_words c.args.nets.now c.args.inputs.now c.args.first (omega arith)
