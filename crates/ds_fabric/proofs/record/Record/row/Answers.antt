use Rattle.std.proofs.Common.{◌+◌, ◌∙◌, ap, sym}
use Rattle.ds_base.specs.Word.{count_of_words}
use Rattle.ds_rule.specs.Words.{node_values}
use Rattle.ds_fabric.proofs.record.Record.row.Goals as goal

pub unpack-requires : goal.unpack-requires
unpack-requires c = c.words.ensures.long ∙ ap count_of_words (sym c.requires.length)

pub returns : goal.returns
returns c = c.unpack.ensures.value
    (node_values c.args.self.now.shown.view.run c.args.node (c.args.k + 1))
    (c.words.ensures.same ∙ sym c.requires.length) c.words.ensures.value
