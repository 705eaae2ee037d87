use Rattle.std.specs.Int.{bit_at}
use Rattle.std.proofs.lemmas.Nat.Bits.{bit_at-lt}
use Rattle.ds_slices.proofs.PickedBits.{by_one}
use Rattle.ds_slices.proofs.pick.one.Goals as goal

pub returns : goal.returns
returns c = λ k below.
    by_one c.args.truth (bit_at c.args.a k) (bit_at c.choose.result k) (bit_at c.spread.result k) (bit_at c.spread-2.result k) (bit_at-lt c.args.a k)
    (c.choose.ensures.zeros k) (c.choose.ensures.ones k) (c.spread.ensures k below) (c.spread-2.ensures k below)
