use Rattle.std.proofs.Common.{◌∙◌, ap}
use Rattle.ds_cover.specs.Ternary.{coded_word}
use Rattle.ds_cover.proofs.TruthWords.{word_is}
use Rattle.ds_cover.proofs.ternary.word_of.Goals as goal

pub returns : goal.returns
returns c = word_is c.args.masks.now c.args.on _ (c.coded.ensures ∙ ap (coded_word c.args.on) c.rows_word.ensures)
