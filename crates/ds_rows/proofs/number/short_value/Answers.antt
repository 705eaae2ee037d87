use Rattle.std.proofs.Common.{◌-◌, ◌*◌, ◌+◌, ◌<◌, get_or, refl, arith}
use Rattle.ds_rows.proofs.DecimalDigits.{digit_more}
use Rattle.ds_rows.proofs.number.short_value.Goals as goal

pub overflow_mul-value : goal.overflow_mul-value
overflow_mul-value c =
    let low : c.loop-byte.value * 10 < 18446744073709551616 = (digit_more c.args.word.now c.loop-byte.byte-index c.loop-byte.value (get_or c.args.word.now c.loop-byte.byte-index 0 - 48) c.requires c.loop-byte.invariant c.loop-byte-test.true refl).tenfold in
    omega (arith, low)

pub overflow_add-value : goal.overflow_add-value
overflow_add-value c =
    let low : c.loop-byte.value * 10 + c.from.result < 18446744073709551616 = (digit_more c.args.word.now c.loop-byte.byte-index c.loop-byte.value c.from.result c.requires c.loop-byte.invariant c.loop-byte-test.true c.from.ensures).sum in
    omega (arith, low)

pub loop-byte-preserved : goal.loop-byte-preserved
loop-byte-preserved c = (digit_more c.args.word.now c.loop-byte.byte-index c.loop-byte.value c.from.result c.requires c.loop-byte.invariant c.loop-byte-test.true c.from.ensures).more
