-- Sums of texts.
use Rattle.std.proofs.Common.{◌≡◌, ℕ, ◌+◌, ◌*◌, ◌%◌, ◌^◌, List, [], ◌∷◌, ◌++◌, refl, sym, ◌∙◌, ap}
use Rattle.std.proofs.Common.{arith}
use Rattle.std.proofs.lemmas.Nat.{mul-mod_second}
use Rattle.ds_demo.specs.Fold.{Folded, nothing, with_byte, fold_after, sum_from, fold_of}

-- in two pieces
pub fold_after-append : (f : Folded) (first second : List ℕ)
    → fold_after (fold_after f first) second ≡ fold_after f (first ++ second)
unfolding fold_after
fold_after-append f [] second = refl
fold_after-append f (byte ∷ first) second = fold_after-append (with_byte f byte) first second

place-more : (place : ℕ) → (place % 2 ^ 64 + 1) % 2 ^ 64 ≡ (place + 1) % 2 ^ 64
place-more place = omega arith

sum-more : (sum one other : ℕ) → one % 2 ^ 64 ≡ other % 2 ^ 64
    → (sum % 2 ^ 64 + one) % 2 ^ 64 ≡ (sum + other) % 2 ^ 64
sum-more sum one other same = omega arith

product-more : (byte place : ℕ)
    → byte * (place % 2 ^ 64 + 1) % 2 ^ 64 ≡ byte * (place + 1) % 2 ^ 64
product-more byte place = sym (mul-mod_second byte (place % 2 ^ 64 + 1) (2 ^ 64))
    ∙ (ap (λ (n : ℕ). byte * n % 2 ^ 64) (place-more place)
    ∙ mul-mod_second byte (place + 1) (2 ^ 64))

-- a sum and a place that wrap at each byte are those that wrap at the end
sum_after : (text : List ℕ) (f : Folded) (sum place : ℕ) → f.sum ≡ sum % 2 ^ 64
    → f.place ≡ place % 2 ^ 64
    → (fold_after f text).sum ≡ (sum + sum_from (place + 1) text) % 2 ^ 64
unfolding fold_after sum_from
sum_after [] f sum place same at = same
    ∙ ap (λ (n : ℕ). n % 2 ^ 64) (let e : sum ≡ sum + 0 = omega arith in e)
sum_after (byte ∷ bytes) f sum place same at =
    let next : (f.sum + byte * (f.place + 1)) % 2 ^ 64 ≡ (sum + byte * (place + 1)) % 2 ^ 64 =
    ap (λ (n : ℕ). (n + byte * (f.place + 1)) % 2 ^ 64) same
    ∙ (ap (λ (n : ℕ). (sum % 2 ^ 64 + byte * (n + 1)) % 2 ^ 64) at
    ∙ sum-more sum (byte * (place % 2 ^ 64 + 1)) (byte * (place + 1)) (product-more byte place)) in
    let after : (f.place + 1) % 2 ^ 64 ≡ (place + 1) % 2 ^ 64 =
    ap (λ (n : ℕ). (n + 1) % 2 ^ 64) at ∙ place-more place in
    sum_after bytes (with_byte f byte) (sum + byte * (place + 1)) (place + 1) next after
    ∙ ap (λ (n : ℕ). n % 2 ^ 64) (let e : sum + byte * (place + 1) + sum_from (place + 1 + 1) bytes
    ≡ sum + (byte * (place + 1) + sum_from (place + 1 + 1) bytes) = omega arith in e)

pub sum_of_text : (text : List ℕ) → (fold_after nothing text).sum ≡ fold_of text
unfolding fold_of
sum_of_text text = sum_after text nothing 0 0 refl refl
    ∙ ap (λ (n : ℕ). n % 2 ^ 64) (let e : 0 + sum_from 1 text ≡ sum_from 1 text = omega arith in e)
