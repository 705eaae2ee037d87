use Rattle.std.proofs.Common.{ap, arith}
use Rattle.std.specs.Int.RustNames.{bit_or}
use Rattle.ds_cover.proofs.WordBits.{some_more}
use Rattle.ds_cover.proofs.rows.rows_word.Goals as goal

pub loop-k-preserved : goal.loop-k-preserved
loop-k-preserved c = some_more c.args.ones.now c.args.zeros.now c.args.masks.now c.loop-k.k c.loop-k.word _ _ (omega arith) (omega arith) c.loop-k.invariant (ap (bit_or c.loop-k.word) c.own_word-word.ensures)
