-- Lists with two items for each item of another.
use Rattle.std.proofs.Common.{◌≡◌, ℕ, zero, suc, ◌+◌, ◌*◌, ◌<◌, ◌⊎◌, inl, inr, List, [], ◌∷◌, ◌++◌, length, get_or, refl, ap, ◌∙◌, arith, add-one, All, AllPairs, Contains}
use Rattle.std.specs.Prelude.{Any}
use Rattle.std.specs.List.{flat_map, range_with_len}
use Rattle.std.proofs.lemmas.List.Concat.{flat_map-append}
use Rattle.std.proofs.lemmas.List.Elements.{All-append, All-cons, All-nil, All-head, All-tail}
use Rattle.std.proofs.lemmas.List.Kept.{AllPairs-cons}
use Rattle.std.proofs.lemmas.List.{append-nil}
use Rattle.std.proofs.lemmas.List.FromFn.{length-range_with_len, get_or-range_with_len}

range_suc : (a n : ℕ) → range_with_len a (suc n) ≡ range_with_len a n ++ (a + n) ∷ []
range_suc a zero = ap (λ (k : ℕ). k ∷ []) (let e : a ≡ a + 0 = omega arith in e)
range_suc a (suc n) = ap (λ (xs : List ℕ). a ∷ xs) (range_suc (a + 1) n ∙ ap (λ (k : ℕ). range_with_len (a + 1) n ++ k ∷ []) (let e : a + 1 + n ≡ a + suc n = omega arith in e))

-- one number more
pub range_next : (n : ℕ) → range_with_len 0 (n + 1) ≡ range_with_len 0 n ++ n ∷ []
range_next n = ap (range_with_len 0) (add-one n) ∙ (range_suc 0 n ∙ ap (λ (k : ℕ). range_with_len 0 n ++ k ∷ []) (let e : 0 + n ≡ n = omega arith in e))

pub flat_map_next : {A : Type 0} (f : ℕ → List A) (n : ℕ) → flat_map f (range_with_len 0 (n + 1)) ≡ flat_map f (range_with_len 0 n) ++ f n
flat_map_next f n = ap (flat_map f) (range_next n) ∙ (flat_map-append f (range_with_len 0 n) (n ∷ []) ∙ ap (λ xs. flat_map f (range_with_len 0 n) ++ xs) (append-nil (f n)))

pub in_range : (n k : ℕ) → k < n → Contains (range_with_len 0 n) k
in_range n k low = (k, rw (length-range_with_len 0 n) low, get_or-range_with_len 0 n k k low ∙ (let e : 0 + k ≡ k = omega arith in e))

pub range_below : (n k : ℕ) → Contains (range_with_len 0 n) k → k < n
range_below n k (i, inside, is) =
    let low : i < n = rw (← length-range_with_len 0 n) inside in
    let at : get_or (range_with_len 0 n) i k ≡ 0 + i = get_or-range_with_len 0 n i k low in
    omega arith

module _ {X A : Type 0} (f g : X → A) where
  abbrev pub two : List X → List A
  two xs = flat_map (λ x. f x ∷ g x ∷ []) xs

  later : (x : X) (xs : List X) (y : A) → Contains (two xs) y → Contains (two (x ∷ xs)) y
  later x xs y (k, inside, is) = (suc (suc k), omega arith, is)

  pub in_first : (xs : List X) (x : X) → Contains xs x → Contains (two xs) (f x)
  in_first [] x (k, inside, is) = absurd (let h : k < 0 = inside in omega arith)
  in_first (z ∷ xs) x (zero, inside, is) = (zero, omega arith, ap f is)
  in_first (z ∷ xs) x (suc k, inside, is) = later z xs (f x) (in_first xs x (k, omega arith, is))

  pub in_second : (xs : List X) (x : X) → Contains xs x → Contains (two xs) (g x)
  in_second [] x (k, inside, is) = absurd (let h : k < 0 = inside in omega arith)
  in_second (z ∷ xs) x (zero, inside, is) = (suc zero, omega arith, ap g is)
  in_second (z ∷ xs) x (suc k, inside, is) = later z xs (g x) (in_second xs x (k, omega arith, is))

  -- an item is one of the two of some item
  pub from_two : (xs : List X) (y : A) → Contains (two xs) y → Any (λ x. (f x ≡ y) ⊎ (g x ≡ y)) xs
  from_two [] y (k, inside, is) = absurd (let h : k < 0 = inside in omega arith)
  from_two (x ∷ xs) y (zero, inside, is) = (zero, x, omega arith, refl, inl is)
  from_two (x ∷ xs) y (suc zero, inside, is) = (zero, x, omega arith, refl, inr is)
  from_two (x ∷ xs) y (suc (suc k), inside, is) =
      let (j, z, below, at, e) = from_two xs y (k, omega arith, is) in (suc j, z, omega arith, at, e)

  pub all_two : (P : A → Type 0) (xs : List X) → All (λ x. P (f x) × P (g x)) xs → All P (two xs)
  all_two P [] all = All-nil P
  all_two P (x ∷ xs) all =
      let here : P (f x) × P (g x) = All-head (λ x. P (f x) × P (g x)) x xs all in
      All-cons P (f x) (g x ∷ two xs) here.0 (All-cons P (g x) (two xs) here.1 (all_two P xs (All-tail (λ x. P (f x) × P (g x)) x xs all)))

  pub length-two : (xs : List X) → length (two xs) ≡ 2 * length xs
  length-two [] = refl
  length-two (x ∷ xs) = let rest : length (two xs) ≡ 2 * length xs = length-two xs in omega arith

  module _ (R : A → A → Type 0) where
    -- both items of the one and both of the other
    abbrev pub Cross : X → X → Type 0
    Cross x y = (R (f x) (f y) × R (f x) (g y)) × (R (g x) (f y) × R (g x) (g y))

    pairs_rest : (x : X) (xs : List X) → AllPairs Cross (x ∷ xs) → All (Cross x) xs × AllPairs Cross xs
    pairs_rest x xs pairs = (λ k d inside. pairs 0 (suc k) d (omega arith) (omega arith), λ i j d below inside. pairs (suc i) (suc j) d (omega arith) (omega arith))

    pub pairs_two : (xs : List X) → AllPairs Cross xs → All (λ x. R (f x) (g x)) xs → AllPairs R (two xs)
    pairs_two [] pairs own = λ i j d below inside. absurd (let h : j < 0 = inside in omega arith)
    pairs_two (x ∷ xs) pairs own =
        let rest : All (Cross x) xs × AllPairs Cross xs = pairs_rest x xs pairs in
        let here : R (f x) (g x) = All-head (λ x. R (f x) (g x)) x xs own in
        AllPairs-cons R (f x) (g x ∷ two xs)
        (All-cons (R (f x)) (g x) (two xs) here (all_two (R (f x)) xs (λ k d inside. (rest.0 k d inside).0)))
        (AllPairs-cons R (g x) (two xs) (all_two (R (g x)) xs (λ k d inside. (rest.0 k d inside).1))
        (pairs_two xs rest.1 (All-tail (λ x. R (f x) (g x)) x xs own)))

-- pairs of two lists, one after the other
pub pairs_append : {A : Type 0} (R : A → A → Type 0) (xs ys : List A) → AllPairs R xs → AllPairs R ys → All (λ x. All (R x) ys) xs → AllPairs R (xs ++ ys)
pairs_append R [] ys one two both = two
pairs_append R (x ∷ xs) ys one two both =
    AllPairs-cons R x (xs ++ ys)
    (All-append (R x) xs ys (λ k d inside. one 0 (suc k) d (omega arith) (omega arith)) (All-head (λ x. All (R x) ys) x xs both))
    (pairs_append R xs ys (λ i j d below inside. one (suc i) (suc j) d (omega arith) (omega arith)) two (All-tail (λ x. All (R x) ys) x xs both))
