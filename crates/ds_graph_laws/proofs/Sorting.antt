-- Each list can be put in an order that tells of any two which one may stand before the other.
use Rattle.std.proofs.Common.{◌≡◌, ◌⊎◌, inl, inr, ℕ, suc, ◌<◌, ◌≤◌, List, [], ◌∷◌, get_or, sym, ◌∙◌, arith, All, AllPairs, IsPermutation}
use Rattle.std.proofs.lemmas.Bool.{cases_eq, cases_lt}
use Rattle.std.proofs.lemmas.List.Elements.{All-cons, All-nil}
use Rattle.std.proofs.lemmas.List.Kept.{AllPairs-cons}
use Rattle.std.proofs.lemmas.List.Sorted.{All-permutation, IsPermutation-cons, IsPermutation-middle, IsPermutation-refl, IsPermutation-trans}

-- one number is less than another, or they are the same and something holds
abbrev pub LessOr : ℕ → ℕ → Type 0 → Type 0
LessOr m n P = (m < n) ⊎ ((m ≡ n) × P)

-- of two one is first by a number, and where that is the same by something else
pub less_cases : (P Q : Type 0) (m n : ℕ) → P ⊎ Q → LessOr m n P ⊎ LessOr n m Q
less_cases P Q m n which = elim (cases_lt m n) [
  | inl less ↦ inl (inl less)
  | inr high ↦ elim (cases_eq m n) [
    | inr other ↦ inr (inl (omega (high, other, arith)))
    | inl same ↦ elim which [ inl p ↦ inl (inr (same, p)) | inr q ↦ inr (inr (sym same, q)) ]
  ]
]

-- and what is first by it stays first before others
pub less_then : (P Q R : Type 0) (k m n : ℕ) → (P → Q → R) → LessOr k m P → LessOr m n Q → LessOr k n R
less_then P Q R k m n then (inl low) (inl high) = inl (omega (low, high, arith))
less_then P Q R k m n then (inl low) (inr (same, q)) = inl (omega (low, same, arith))
less_then P Q R k m n then (inr (same, p)) (inl high) = inl (omega (same, high, arith))
less_then P Q R k m n then (inr (same, p)) (inr (also, q)) = inr (same ∙ also, then p q)

-- of two numbers one is not greater than the other
pub most_cases : (m n : ℕ) → (m ≤ n) ⊎ (n ≤ m)
most_cases m n = elim (cases_lt m n) [ inl less ↦ inl (omega (less, arith)) | inr high ↦ inr high ]

module _ {X : Type 0} (R : X → X → Type 0) where
  -- the items of a list in order
  pub record InOrder (xs : List X) : Type 0 where
    pub sorted : List X
    pub same : IsPermutation xs sorted
    pub rising : AllPairs R sorted

  first_before : (x : X) (xs : List X) → AllPairs R (x ∷ xs) → All (R x) xs
  first_before x xs rising k d inside = rising 0 (suc k) d (omega arith) (omega (inside, arith))

  rest_rising : (x : X) (xs : List X) → AllPairs R (x ∷ xs) → AllPairs R xs
  rest_rising x xs rising i j d below inside = rising (suc i) (suc j) d (omega (below, arith)) (omega (inside, arith))

  module _ (cases : (x y : X) → R x y ⊎ R y x) (then : (x y z : X) → R x y → R y z → R x z) where
    -- one item more
    put : (x : X) (xs : List X) → AllPairs R xs → InOrder (x ∷ xs)
    put x [] rising = record {
      sorted = x ∷ [];
      same = IsPermutation-refl (x ∷ []);
      rising = AllPairs-cons R x [] (All-nil (R x)) rising;
    }
    put x (y ∷ ys) rising = elim (cases x y) [
      | inl before ↦ record {
        sorted = x ∷ y ∷ ys;
        same = IsPermutation-refl (x ∷ y ∷ ys);
        rising = AllPairs-cons R x (y ∷ ys)
            (All-cons (R x) y ys before (λ k d inside. then x y (get_or ys k d) before (first_before y ys rising k d inside)))
            rising;
      }
      | inr behind ↦ (
          let rest : InOrder (x ∷ ys) = put x ys (rest_rising y ys rising) in
          record {
            sorted = y ∷ rest.sorted;
            same = IsPermutation-trans (x ∷ y ∷ ys) (y ∷ x ∷ ys) (y ∷ rest.sorted)
                (IsPermutation-middle (x ∷ []) y ys) (IsPermutation-cons y (x ∷ ys) rest.sorted rest.same);
            rising = AllPairs-cons R y rest.sorted
                (All-permutation (R y) (x ∷ ys) rest.sorted rest.same (All-cons (R y) x ys behind (first_before y ys rising)))
                rest.rising;
          })
    ]

    -- every list has an order
    pub put_in_order : (xs : List X) → InOrder xs
    put_in_order [] = record {
      sorted = [];
      same = IsPermutation-refl [];
      rising = λ i j d below inside. absurd (let h : j < 0 = inside in omega (h, arith));
    }
    put_in_order (x ∷ xs) =
        let rest : InOrder xs = put_in_order xs in
        let all : InOrder (x ∷ rest.sorted) = put x rest.sorted rest.rising in
        record {
          sorted = all.sorted;
          same = IsPermutation-trans (x ∷ xs) (x ∷ rest.sorted) all.sorted (IsPermutation-cons x xs rest.sorted rest.same) all.same;
          rising = all.rising;
        }
