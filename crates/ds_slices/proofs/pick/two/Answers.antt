use Rattle.std.specs.Int.{bit_at}
use Rattle.std.proofs.lemmas.Nat.Bits.{bit_at-lt}
use Rattle.ds_slices.proofs.PickedBits.{by_more}
use Rattle.ds_slices.proofs.pick.two.Goals as goal

pub returns : goal.returns
returns c = λ k below.
    by_more c.args.truth c.args.second (bit_at c.args.a k) (bit_at c.args.b k) (bit_at c.choose.result k) (bit_at c.one.result k) (bit_at c.one-2.result k)
    (bit_at-lt c.args.b k) (c.choose.ensures.zeros k) (c.choose.ensures.ones k) (c.one.ensures k below) (c.one-2.ensures k below)
