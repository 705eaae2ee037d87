use Rattle.std.proofs.Common.{◌≡◌, ◌∙◌, arith}
use Rattle.std.specs.Int.{bit_at}
use Rattle.std.proofs.lemmas.Nat.Bits.{bit_at-lt, bit_at_ones, shr_and_one}
use Rattle.ds_slices.proofs.pick.spread.Goals as goal

pub returns-else-truth-place-eq0 : goal.returns-else-truth-place-eq0
returns-else-truth-place-eq0 c = λ k below.
    let one : 1 ≡ bit_at c.args.truth c.args.place =
    (let same = shr_and_one c.args.truth c.args.place in let few = bit_at-lt c.args.truth c.args.place in let some = c.if-truth-place-eq0.false in omega arith) in
    bit_at_ones 64 k below ∙ one
