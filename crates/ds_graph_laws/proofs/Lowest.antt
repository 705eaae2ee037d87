-- A ratio has its lowest terms once.
use Rattle.std.proofs.Common.{◌≡◌, ◌<◌, ◌*◌, ◌/◌, ℕ, inl, inr, arith, ap, sym, subst}
use Rattle.std.specs.Int.{IsGcd}
use Rattle.std.proofs.Math.Nat.{dvd-mul_left, dvd-mul_right, dvd_of_mul-dvd-mul_right, div-mul_cancel, eq-one_of_dvd-one}
use Rattle.std.proofs.lemmas.Bool.{cases_eq}
use Rattle.std.proofs.lemmas.Nat.Gcd.{IsGcd-swap, dvd_antisymm, dvd-zero}
use Rattle.ds_graph_laws.proofs.Divided.{some_gcd}
use Prim.Native.Nat.{◌∣◌}

-- the greatest common divisor of two multiples of a number is that number, where only 1 divides both factors
same_multiple : (a b c g : ℕ) → 0 < c → IsGcd a b 1 → IsGcd (a * c) (b * c) g → g ≡ c
same_multiple a b c g some coprime is =
    let whole : g / c * c ≡ g = div-mul_cancel c (is.2 c (dvd-mul_left c a) (dvd-mul_left c b)) in
    let one : g / c * c ∣ a * c = subst (λ (m : ℕ). m ∣ a * c) (sym whole) is.0 in
    let two : g / c * c ∣ b * c = subst (λ (m : ℕ). m ∣ b * c) (sym whole) is.1 in
    let unit : g / c ≡ 1 = eq-one_of_dvd-one (coprime.2 (g / c)
    (dvd_of_mul-dvd-mul_right {k = c} (g / c) {n = a} some one)
    (dvd_of_mul-dvd-mul_right {k = c} (g / c) {n = b} some two)) in
    let once : g / c * c ≡ 1 * c = ap (λ (m : ℕ). m * c) unit in
    omega arith

-- what divides a product and has no divisor with one factor divides the other
divides_other : (a b c : ℕ) → IsGcd a b 1 → a ∣ b * c → a ∣ c
divides_other a b c coprime divides = elim (cases_eq c 0) [
  | inl none ↦ subst (λ (m : ℕ). a ∣ m) (sym none) (dvd-zero a)
  | inr some ↦
      let (g, is) = some_gcd (a * c) (b * c) in
      let same = same_multiple a b c g (omega arith) coprime is in
      subst (λ (m : ℕ). a ∣ m) same (is.2 a (dvd-mul_right a c) divides)
]

-- two fractions in lowest terms that are equal have the same terms
pub same_terms : (p q r s : ℕ) → IsGcd p q 1 → IsGcd r s 1 → p * s ≡ r * q → (p ≡ r) × (q ≡ s)
same_terms p q r s low lower same =
    let one : p ∣ q * r = subst (λ (m : ℕ). p ∣ m) {x = p * s} {y = q * r} (omega arith) (dvd-mul_right p s) in
    let two : r ∣ s * p = subst (λ (m : ℕ). r ∣ m) {x = r * q} {y = s * p} (omega arith) (dvd-mul_right r q) in
    let three : q ∣ p * s = subst (λ (m : ℕ). q ∣ m) {x = r * q} {y = p * s} (sym same) (dvd-mul_left q r) in
    let four : s ∣ r * q = subst (λ (m : ℕ). s ∣ m) {x = p * s} {y = r * q} same (dvd-mul_left s p) in (
      dvd_antisymm (divides_other p q r low one) (divides_other r s p lower two),
      dvd_antisymm (divides_other q p s (IsGcd-swap p q 1 low) three) (divides_other s r q (IsGcd-swap r s 1 lower) four),
    )
