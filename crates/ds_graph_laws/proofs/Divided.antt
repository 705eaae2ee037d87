-- Two numbers have a greatest common divisor.
use Rattle.std.proofs.Common.{◌≤◌, ◌%◌, ℕ, inl, inr, zero, suc, arith}
use Rattle.std.specs.Int.{IsGcd}
use Rattle.std.proofs.lemmas.Bool.{cases_eq}
use Rattle.std.proofs.lemmas.Nat.Gcd.{IsGcd-from_mod, IsGcd-from_zero}

-- by Euclid's steps, of which there are no more than the second number says
gcd_within : (n a b : ℕ) → b ≤ n → (g : ℕ) × IsGcd a b g
gcd_within zero a b most = (a, IsGcd-from_zero a b (omega arith))
gcd_within (suc n) a b most = elim (cases_eq b 0) [
  | inl none ↦ (a, IsGcd-from_zero a b none)
  | inr other ↦
      let (g, is) = gcd_within n b (a % b) (omega arith) in
      (g, IsGcd-from_mod a b g is)
]

-- and so there is one
pub some_gcd : (a b : ℕ) → (g : ℕ) × IsGcd a b g
some_gcd a b = gcd_within b a b (omega arith)
