use Rattle.std.proofs.Common.{◌≡◌, ◌≤◌, ◌/◌, ◌^◌, ◌%◌, ℕ, ap, arith, sym}
use Rattle.std.proofs.Math.Nat.{div-eq_of_lt}
use Rattle.std.proofs.Math.Pow.{pow_mono}
use Rattle.ds_cover.specs.Kept.{bit_value}
use Rattle.ds_cover.proofs.wide.bit_in.Goals as goal

pub returns-else-place-lt64 : goal.returns-else-place-lt64
returns-else-place-lt64 c =
    let wide : 2 ^ 64 ≤ 2 ^ c.args.place = pow_mono c.if-place-lt64.false in
    let none : c.args.word / 2 ^ c.args.place ≡ 0 = div-eq_of_lt (omega (c.ranges.word.fits, wide, arith)) in
    sym (ap (λ (n : ℕ). bit_value (n % 2)) none)
