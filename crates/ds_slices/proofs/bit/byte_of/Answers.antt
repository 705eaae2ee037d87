use Rattle.std.proofs.Common.{◌∙◌, ◌-◌, ◌*◌, ◌/◌, ◌^◌, arith}
use Rattle.std.proofs.lemmas.Nat.Bits.{bit_at-lt, bit_at_and, bit_at_ones}
use Rattle.ds_slices.proofs.PickedBits.{bit_behind}
use Rattle.ds_slices.proofs.bit.byte_of.Goals as goal

pub returns : goal.returns
returns c = λ k low.
    bit_at_and (c.args.word / 2 ^ (8 * c.args.block)) (2 ^ 8 - 1) k
    ∙ (omega (arith, bit_at_ones 8 k low, bit_at-lt (c.args.word / 2 ^ (8 * c.args.block)) k) ∙ bit_behind c.args.word (8 * c.args.block) k)
