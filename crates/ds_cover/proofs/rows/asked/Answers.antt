use Rattle.std.proofs.Common.{ap, arith}
use Rattle.std.specs.Int.RustNames.{bit_and}
use Rattle.ds_cover.proofs.WordBits.{asked_more}
use Rattle.ds_cover.proofs.rows.asked.Goals as goal

pub loop-i-preserved : goal.loop-i-preserved
loop-i-preserved c = asked_more c.args.words.now c.args.needs c.loop-i.i c.loop-i.word _ _ (omega arith) (omega arith) c.loop-i.invariant (ap (bit_and c.loop-i.word) c.kept-word.ensures)
