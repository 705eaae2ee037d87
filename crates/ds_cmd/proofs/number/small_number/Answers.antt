use Rattle.std.proofs.Common.{arith, sym}
use Rattle.ds_cmd.proofs.NumberWords.{number_low}
use Rattle.ds_cmd.proofs.number.small_number.Goals as goal

pub overflow_cast-result : goal.overflow_cast-result
overflow_cast-result c =
    omega (arith, number_low _ _ _ _ (sym c.in-Some.ensures), c.ranges.most.fits)
