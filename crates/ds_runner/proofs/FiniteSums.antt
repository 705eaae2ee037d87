-- Sums over the numbers below one.
use Rattle.std.proofs.Common.{◌≡◌, ◌≢◌, ℕ, zero, suc, ◌+◌, ◌*◌, ◌<◌, ◌≤◌, sym, refl, ap, subst, arith, suc-mul}
use mathlib.Core.Logic.{dite}
use native.Mathlib.Decide.{ℕ_discrete}
use Rattle.ds_runner.specs.TurnstileRule.{sum_below}
use Rattle.ds_runner.proofs.TurnstileRuleLemmas.{sum_same}

pub sum-next : (f : ℕ → ℕ) (n : ℕ) → sum_below f (n + 1) ≡ sum_below f n + f n
sum-next f n = let next : n + 1 ≡ suc n = omega arith in ap (sum_below f) next

pub sum_none : (f : ℕ → ℕ) (n : ℕ) → ((j : ℕ) → j < n → f j ≡ 0) → sum_below f n ≡ 0
sum_none f zero none = refl
sum_none f (suc n) none = omega (arith, sum_none f n (λ j h. none j (omega arith)), none n (omega arith))

-- one number counts one more
pub sum_up : (f g : ℕ → ℕ) (n x : ℕ) → ((j : ℕ) → j ≢ x → f j ≡ g j) → f x ≡ g x + 1 → x < n
    → sum_below f n ≡ sum_below g n + 1
sum_up f g zero x same more h = absurd (omega arith)
sum_up f g (suc n) x same more h = dite (ℕ_discrete x n)
    (λ e. omega (
      arith,
      sum_same f g n (λ j low. same j (λ t. omega arith)),
      subst (λ (m : ℕ). f m ≡ g m + 1) e more,
    ))
    (λ ne. omega (arith, sum_up f g n x same more (omega arith), same n (λ t. ne (sym t))))

pub sum_most : (f : ℕ → ℕ) (n m : ℕ) → ((j : ℕ) → j < n → f j ≤ m) → sum_below f n ≤ n * m
sum_most f zero m low = omega arith
sum_most f (suc n) m low = omega (
  arith,
  sum_most f n m (λ j near. low j (omega arith)),
  low n (omega arith),
  suc-mul n m,
)

pub sum_all : (f : ℕ → ℕ) (n m : ℕ) → ((j : ℕ) → j < n → f j ≡ m) → sum_below f n ≡ n * m
sum_all f zero m each = omega arith
sum_all f (suc n) m each = omega (
  arith,
  sum_all f n m (λ j near. each j (omega arith)),
  each n (omega arith),
  suc-mul n m,
)
