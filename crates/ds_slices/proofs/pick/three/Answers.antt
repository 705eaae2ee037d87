use Rattle.std.proofs.Common.{◌+◌, ◌*◌}
use Rattle.std.specs.Int.{bit_at}
use Rattle.std.proofs.lemmas.Nat.Bits.{bit_at-lt}
use Rattle.ds_slices.proofs.PickedBits.{by_more}
use Rattle.ds_slices.proofs.pick.three.Goals as goal

pub returns : goal.returns
returns c = λ k below.
    by_more c.args.truth c.args.third (bit_at c.args.a k + 2 * bit_at c.args.b k) (bit_at c.args.c k) (bit_at c.choose.result k) (bit_at c.two.result k) (bit_at c.two-2.result k)
    (bit_at-lt c.args.c k) (c.choose.ensures.zeros k) (c.choose.ensures.ones k) (c.two.ensures k below) (c.two-2.ensures k below)
