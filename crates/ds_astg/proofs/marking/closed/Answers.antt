use Rattle.std.proofs.Common.{sym, ◌∙◌, arith}
use Rattle.ds_astg.proofs.Braces.{closed_some}
use Rattle.ds_astg.proofs.marking.closed.Goals as goal

pub returns : goal.returns
returns c = closed_some c.args.words.items c.deref.result.now c.len-count.result c.without_last.result c.word-last.result.now
    (omega (arith, c.len-count.ensures, c.args.words.ok)) c.deref.ensures.value c.word-last.ensures (sym c.last_byte.ensures ∙ c.if-last_byte-ne125.false) c.without_last.ensures
