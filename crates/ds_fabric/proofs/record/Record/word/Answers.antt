use Rattle.std.proofs.Common.{◌∙◌, ◌<◌, ◌+◌, length, arith, sym}
use Rattle.ds_rule.proofs.PlaceLaws.{width-is}
use Rattle.ds_fabric.proofs.RowReads.{value-word}
use Rattle.ds_fabric.proofs.record.Record.word.Goals as goal

pub bounds-words-i : goal.bounds-words-i
bounds-words-i c = omega (arith, c.requires.inside, c.words-words.ensures.long, width-is c.args.self.now.shown.view.run c.args.node)

pub offset_bounds-words-i : goal.offset_bounds-words-i
offset_bounds-words-i c = omega (arith, c.requires.inside, c.words-words.ensures.long, width-is c.args.self.now.shown.view.run c.args.node)

pub returns : goal.returns
returns c =
    let low : c.args.i < length c.words-words.result.now = omega (arith, c.requires.inside, c.words-words.ensures.long, width-is c.args.self.now.shown.view.run c.args.node) in
    c.words-words.ensures.value c.args.i low
    ∙ sym (value-word c.args.self.now.shown.view.run c.args.node (c.args.k + 1) c.args.i)
