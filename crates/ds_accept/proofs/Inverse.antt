-- The inverse of numbers, no two of which are equal.
use Rattle.std.proofs.Common.{◌≡◌, ◌≢◌, ◌⊎◌, inl, inr, ℕ, zero, suc, ◌<◌, sym, ap, arith}
use Rattle.std.proofs.lemmas.Bool.{cases_eq}

chosen : {A B : Type 0} → A ⊎ B → ℕ → ℕ → ℕ
chosen (inl a) n m = n
chosen (inr b) n m = m

-- the greatest place below that has a number
pub inverse : (ℕ → ℕ) → ℕ → ℕ → ℕ
inverse number zero v = 0
inverse number (suc n) v = chosen (cases_eq (number n) v) n (inverse number n v)

chosen_is : (number : ℕ → ℕ) (n p m : ℕ) → (number n ≡ number p → n ≡ p) → (p ≢ n → m ≡ p)
    → (which : (number n ≡ number p) ⊎ (number n ≢ number p)) → chosen which n m ≡ p
unfolding chosen
chosen_is number n p m one other (inl same) = one same
chosen_is number n p m one other (inr differs) = other (λ is. differs (sym (ap number is)))

pub inverse_is : (number : ℕ → ℕ) (n : ℕ) → ((p q : ℕ) → p < n → q < n → number p ≡ number q → p ≡ q)
    → (p : ℕ) → p < n → inverse number n (number p) ≡ p
unfolding inverse chosen
inverse_is number zero one p low = absurd (omega (low, arith))
inverse_is number (suc n) one p low =
    chosen_is number n p (inverse number n (number p)) (one n p (omega arith) low)
    (λ differs. inverse_is number n (λ q r below beside. one q r (omega (below, arith)) (omega (beside, arith))) p (omega (low, differs, arith)))
    (cases_eq (number n) (number p))
