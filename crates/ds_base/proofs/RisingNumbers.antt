-- Rising numbers are told by which they are.
use Rattle.std.proofs.Common.{◌≡◌, ℕ, zero, suc, ◌<◌, ◌≤◌, List, [], ◌∷◌, length, get_or, refl, sym, ◌∙◌, ap, arith}
use Rattle.std.specs.Prelude.{AllPairs, Contains}

-- the first of rising numbers is the least
above : (y : ℕ) (ys : List ℕ) → AllPairs (λ a b. a < b) (y ∷ ys) → (z : ℕ) → Contains ys z → y < z
above y ys rising z (k, inside, is) =
    let h : y < get_or ys k z = rising 0 (suc k) z (omega arith) (omega arith) in omega (arith, is)

least : (y : ℕ) (ys : List ℕ) → AllPairs (λ a b. a < b) (y ∷ ys) → (z : ℕ) → Contains (y ∷ ys) z → y ≤ z
least y ys rising z (zero, inside, is) = omega (arith, is)
least y ys rising z (suc k, inside, is) = (let h : y < z = above y ys rising z (k, omega arith, is) in omega arith)

behind : (y : ℕ) (ys : List ℕ) → AllPairs (λ a b. a < b) (y ∷ ys) → AllPairs (λ a b. a < b) ys
behind y ys rising i j d below inside = rising (suc i) (suc j) d (omega arith) (omega arith)

-- what is not the first stands behind it
later : (y z : ℕ) (ys : List ℕ) → y < z → Contains (y ∷ ys) z → Contains ys z
later y z ys more (zero, inside, is) = absurd (omega (arith, is))
later y z ys more (suc k, inside, is) = (k, omega arith, is)

-- rising numbers are told by which they are
pub rising_same : (xs ys : List ℕ) → AllPairs (λ a b. a < b) xs → AllPairs (λ a b. a < b) ys
    → ((x : ℕ) → Contains xs x → Contains ys x) → ((x : ℕ) → Contains ys x → Contains xs x) → xs ≡ ys
rising_same [] [] one other there back = refl
rising_same [] (y ∷ ys) one other there back =
    let (k, inside, is) = back y (0, omega arith, refl) in absurd (let h : k < 0 = inside in omega arith)
rising_same (x ∷ xs) [] one other there back =
    let (k, inside, is) = there x (0, omega arith, refl) in absurd (let h : k < 0 = inside in omega arith)
rising_same (x ∷ xs) (y ∷ ys) one other there back =
    let low : y ≤ x = least y ys other x (there x (0, omega arith, refl)) in
    let high : x ≤ y = least x xs one y (back y (0, omega arith, refl)) in
    let e : x ≡ y = omega arith in
    let rest : xs ≡ ys = rising_same xs ys (behind x xs one) (behind y ys other)
    (λ z is. let (k, inside, at) = is in
    let more : x < z = above x xs one z (k, inside, at) in later y z ys (omega arith) (there z (suc k, omega arith, at)))
    (λ z is. let (k, inside, at) = is in
    let more : y < z = above y ys other z (k, inside, at) in later x z xs (omega arith) (back z (suc k, omega arith, at))) in
    ap (λ z. z ∷ xs) e ∙ ap (λ zs. y ∷ zs) rest
