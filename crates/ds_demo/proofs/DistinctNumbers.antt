-- Facts of each element, and numbers that differ.
use Rattle.std.proofs.Common.{◌≡◌, ◌≢◌, inl, inr, ℕ, zero, suc, ◌+◌, ◌-◌, ◌<◌, List, [], ◌∷◌, ◌++◌}
use Rattle.std.proofs.Common.{length, get_or, ◌∙◌, ap, arith, map, length-append}
use Rattle.std.specs.Prelude.{All, AllPairs, Contains}
use Rattle.std.specs.List.{flat_map, range_with_len}
use Rattle.std.proofs.lemmas.Bool.{cases_lt}
use Rattle.std.proofs.lemmas.List.Elements.{All-map, All-nil, All-cons, All-head, All-tail}
use Rattle.std.proofs.lemmas.List.Elements.{All-append}
use Rattle.std.proofs.lemmas.List.FromFn.{length-range_with_len, get_or-range_with_len}
use Rattle.std.proofs.lemmas.List.FromFn.{length-map-range_with_len, get_or-map-range_with_len}
use Rattle.ds_base.proofs.AppendedPairs.{get_or-left, get_or-right}

pub All-two : {X : Type 0} (P : X → Type 0) (a b : X) → P a → P b → All P (a ∷ b ∷ [])
All-two P a b p q = All-cons P a (b ∷ []) p (All-cons P b [] q (All-nil P))

pub All-three : {X : Type 0} (P : X → Type 0) (a b c : X) → P a → P b → P c
    → All P (a ∷ b ∷ c ∷ [])
All-three P a b c p q r = All-cons P a (b ∷ c ∷ []) p (All-two P b c q r)

-- what holds of each number below a bound holds of the list
All-range : (P : ℕ → Type 0) (n : ℕ) → ((j : ℕ) → j < n → P j) → All P (range_with_len 0 n)
All-range P n each k d inside =
    let long : length (range_with_len 0 n) ≡ n = length-range_with_len 0 n in
    let small : k < n = omega arith in
    let is : get_or (range_with_len 0 n) k d ≡ k =
    get_or-range_with_len 0 n k d small ∙ omega arith in
    rw is (each k small)

-- what holds of what each number below a bound makes
pub All-made : {X : Type 0} (P : X → Type 0) (f : ℕ → X) (n : ℕ)
    → ((j : ℕ) → j < n → P (f j)) → All P (map f (range_with_len 0 n))
All-made P f n each = All-map P f (range_with_len 0 n) (All-range (λ j. P (f j)) n each)

-- what holds in each part holds in all
pub All-flat_map : {X Y : Type 0} (P : Y → Type 0) (f : X → List Y) (xs : List X)
    → All (λ x. All P (f x)) xs → All P (flat_map f xs)
All-flat_map P f [] each = All-nil P
All-flat_map P f (x ∷ xs) each = All-append P (f x) (flat_map f xs)
    (All-head (λ y. All P (f y)) x xs each)
    (All-flat_map P f xs (All-tail (λ y. All P (f y)) x xs each))

-- nothing stands in no list
pub Contains-none : (xs : List ℕ) → xs ≡ [] → (x : ℕ) → ¬ Contains xs x
Contains-none xs none x (k, inside, is) =
    let short : length xs ≡ 0 = ap length none in
    absurd (omega arith)

-- what a number below a bound makes is there
pub Contains-made : (f : ℕ → ℕ) (n j : ℕ) → j < n → Contains (map f (range_with_len 0 n)) (f j)
Contains-made f n j below =
    let long : length (map f (range_with_len 0 n)) ≡ n = length-map-range_with_len f 0 n in
    (j, omega arith, get_or-map-range_with_len f 0 n j j (f j) below (omega arith))

-- two numbers that differ
pub two_differ : (a b : ℕ) → a ≢ b → AllPairs (λ x y. x ≢ y) (a ∷ b ∷ [])
two_differ a b differ zero zero d below inside = absurd (omega arith)
two_differ a b differ zero (suc zero) d below inside = differ
two_differ a b differ zero (suc (suc j)) d below inside = absurd (omega arith)
two_differ a b differ (suc i) zero d below inside = absurd (omega arith)
two_differ a b differ (suc i) (suc zero) d below inside = absurd (omega arith)
two_differ a b differ (suc i) (suc (suc j)) d below inside = absurd (omega arith)

-- what rises from number to number differs
pub made_differ : (f : ℕ → ℕ) (n : ℕ) → ((i j : ℕ) → i < j → f i < f j)
    → AllPairs (λ x y. x ≢ y) (map f (range_with_len 0 n))
made_differ f n rises i j d below inside same =
    let long : length (map f (range_with_len 0 n)) ≡ n = length-map-range_with_len f 0 n in
    let small : j < n = omega arith in
    let one : get_or (map f (range_with_len 0 n)) i d ≡ f i =
    get_or-map-range_with_len f 0 n i i d (omega arith) (omega arith) in
    let other : get_or (map f (range_with_len 0 n)) j d ≡ f j =
    get_or-map-range_with_len f 0 n j j d small (omega arith) in
    let less : f i < f j = rises i j below in
    absurd (omega arith)

-- two lists whose numbers differ, those of the first below those of the second or the other way
pub pairs-append : (xs ys : List ℕ) → AllPairs (λ x y. x ≢ y) xs → AllPairs (λ x y. x ≢ y) ys
    → All (λ x. All (λ y. x ≢ y) ys) xs → AllPairs (λ x y. x ≢ y) (xs ++ ys)
pairs-append xs ys first second apart i j d below inside =
    let long : length (xs ++ ys) ≡ length xs + length ys = length-append xs ys in
    elim (cases_lt j (length xs)) [
      | inl left ↦ rw (get_or-left xs ys i d (omega arith), get_or-left xs ys j d left)
          (first i j d below left)
      | inr past ↦ elim (cases_lt i (length xs)) [
        | inl left ↦ rw (
          get_or-left xs ys i d left,
          get_or-right xs ys (j - length xs) j d (omega arith),
        )
            (apart i d left (j - length xs) d (omega arith))
        | inr later ↦ rw (
          get_or-right xs ys (i - length xs) i d (omega arith),
          get_or-right xs ys (j - length xs) j d (omega arith),
        )
            (second (i - length xs) (j - length xs) d (omega arith) (omega arith))
      ]
    ]
