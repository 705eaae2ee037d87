use Rattle.std.proofs.Common.{◌+◌, ◌*◌, ℕ, get_or}
use Rattle.std.specs.Int.{bit_at}
use Rattle.std.proofs.lemmas.Nat.Bits.{bit_at-lt}
use Rattle.ds_slices.proofs.PickedBits.{by_more}
use Rattle.ds_slices.proofs.pick.five.Goals as goal

pub returns : goal.returns
returns c = λ k below.
    let bit : ℕ → ℕ = λ i. bit_at (get_or c.args.words.now i 0) k in
    by_more c.args.truth 16 (bit 0 + 2 * bit 1 + 4 * bit 2 + 8 * bit 3) (bit 4) (bit_at c.choose.result k) (bit_at c.four.result k) (bit_at c.four-2.result k)
    (bit_at-lt (get_or c.args.words.now 4 0) k) (c.choose.ensures.zeros k) (c.choose.ensures.ones k) (c.four.ensures k below) (c.four-2.ensures k below)
