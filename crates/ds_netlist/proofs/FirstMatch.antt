-- The first of some, and the first number of a range that passes a test.
use Rattle.std.proofs.Common.{◌≡◌, ◌⊎◌, ℕ, zero, suc, ◌+◌, ◌<◌, ◌≤◌, Bool, true, false, List, [], ◌∷◌, length, map, refl, arith, inl, inr, Some, None}
use Rattle.std.specs.Prelude.{All, Contains, Option}
use Rattle.std.specs.List.{find, position, position_or_len, range_with_len}
use Rattle.std.specs.Option.{option_map, option_or}
use Rattle.std.proofs.lemmas.Bool.{cases_eq}
use Rattle.std.proofs.lemmas.Bool.Decides.{leb_tells}
use Rattle.std.proofs.lemmas.List.Elements.{All-cons, All-head, All-tail}
use Rattle.std.proofs.lemmas.List.Sums.{fails_before_first}
use Rattle.ds_netlist.specs.Fault.{first_some}

-- a test passes or fails
pub cases_Bool : (b : Bool) → (b ≡ true) ⊎ (b ≡ false)
cases_Bool true = inl refl
cases_Bool false = inr refl

-- where nothing comes of two, nothing comes of each
pub or_none : {X : Type 0} (o p : Option X) → option_or o p ≡ None → (o ≡ None) × (p ≡ None)
or_none None p e = (refl, e)
or_none (Some x) p e = absurd (cc)

-- what comes of two comes of the first, or of the second where the first gives nothing
pub or_some : {X : Type 0} (o p : Option X) (x : X) → option_or o p ≡ Some x → (o ≡ Some x) ⊎ ((o ≡ None) × (p ≡ Some x))
or_some None p x e = inr (refl, e)
or_some (Some y) p x e = inl e

-- a map of something is something
pub map_none : {X Y : Type 0} (f : X → Y) (o : Option X) → option_map f o ≡ None → o ≡ None
map_none f None e = refl
map_none f (Some x) e = absurd (cc)

pub map_some : {X Y : Type 0} (f : X → Y) (o : Option X) (y : Y) → option_map f o ≡ Some y → (x : X) × (o ≡ Some x) × (f x ≡ y)
map_some f None y e = absurd (cc)
map_some f (Some x) y e = (x, refl, cc)

-- nothing is found exactly where each fails
pub find_none : {X : Type 0} (p : X → Bool) (xs : List X) → find p xs ≡ None → All (λ x. p x ≡ false) xs
find_none p [] e = λ k d inside. absurd (omega arith)
find_none p (x ∷ xs) e = elim (cases_Bool (p x)) [
  | inl yes_x ↦ absurd (let found : Some x ≡ None = rw yes_x at e in cc)
  | inr no_x ↦ All-cons (λ x. p x ≡ false) x xs no_x (find_none p xs (rw no_x at e))
]

pub none_found : {X : Type 0} (p : X → Bool) (xs : List X) → All (λ x. p x ≡ false) xs → find p xs ≡ None
none_found p [] all = refl
none_found p (x ∷ xs) all =
    let here = All-head (λ x. p x ≡ false) x xs all in
    rw here (none_found p xs (All-tail (λ x. p x ≡ false) x xs all))

-- what is found is there and passes
pub find_some : (p : ℕ → Bool) (xs : List ℕ) (y : ℕ) → find p xs ≡ Some y → Contains xs y × (p y ≡ true)
find_some p [] y e = absurd (cc)
find_some p (x ∷ xs) y e = elim (cases_Bool (p x)) [
  | inl yes_x ↦ let found : Some x ≡ Some y = rw yes_x at e in let same : x ≡ y = cc in ((0, omega arith, same), rw (← same) yes_x)
  | inr no_x ↦ let ((k, inside, is), passes) = find_some p xs y (rw no_x at e) in ((suc k, omega arith, is), passes)
]

-- the first number of a range that passes
pub found_at : (p : ℕ → Bool) (a n k : ℕ) → a ≤ k → k < a + n → p k ≡ true → ((j : ℕ) → a ≤ j → j < k → p j ≡ false)
    → find p (range_with_len a n) ≡ Some k
found_at p a zero k low high passes before = absurd (omega arith)
found_at p a (suc n) k low high passes before = elim (cases_eq a k) [
  | inl e ↦ rw (e, passes) refl
  | inr ne ↦ let fails = before a (omega arith) (omega arith) in
      rw fails (found_at p (a + 1) n k (omega arith) (omega arith) passes (λ j above below. before j (omega arith) below))
]

-- no number of a range passes
pub none_in : (p : ℕ → Bool) (a n : ℕ) → ((j : ℕ) → a ≤ j → j < a + n → p j ≡ false) → find p (range_with_len a n) ≡ None
none_in p a zero fails = refl
none_in p a (suc n) fails =
    let here = fails a (omega arith) (omega arith) in
    rw here (none_in p (a + 1) n (λ j low high. fails j (omega arith) (omega arith)))

pub fails_in : (p : ℕ → Bool) (a n : ℕ) → find p (range_with_len a n) ≡ None → (j : ℕ) → a ≤ j → j < a + n → p j ≡ false
fails_in p a zero e j low high = absurd (omega arith)
fails_in p a (suc n) e j low high = elim (cases_Bool (p a)) [
  | inl yes_a ↦ absurd (let found : Some a ≡ None = rw yes_a at e in cc)
  | inr no_a ↦ elim (cases_eq a j) [
    | inl same ↦ rw (← same) no_a
    | inr ne ↦ fails_in p (a + 1) n (rw no_a at e) j (omega arith) (omega arith)
  ]
]

pub some_in : (p : ℕ → Bool) (a n k : ℕ) → find p (range_with_len a n) ≡ Some k → (a ≤ k) × (k < a + n) × (p k ≡ true)
some_in p a zero k e = absurd (cc)
some_in p a (suc n) k e = elim (cases_Bool (p a)) [
  | inl yes_a ↦ let found : Some a ≡ Some k = rw yes_a at e in let same : a ≡ k = cc in (omega arith, omega arith, rw (← same) yes_a)
  | inr no_a ↦ let (low, high, passes) = some_in p (a + 1) n k (rw no_a at e) in (omega arith, omega arith, passes)
]

-- the first number of a range of which something comes
pub first_at : {X : Type 0} (f : ℕ → Option X) (a n k : ℕ) (x : X) → a ≤ k → k < a + n → f k ≡ Some x
    → ((j : ℕ) → a ≤ j → j < k → f j ≡ None) → first_some (map f (range_with_len a n)) ≡ Some x
first_at f a zero k x low high is before = absurd (omega arith)
first_at f a (suc n) k x low high is before = elim (cases_eq a k) [
  | inl e ↦ rw (e, is) refl
  | inr ne ↦ let fails = before a (omega arith) (omega arith) in
      rw fails (first_at f (a + 1) n k x (omega arith) (omega arith) is (λ j above below. before j (omega arith) below))
]

-- nothing comes of a range exactly where nothing comes of each number
pub first_none : {X : Type 0} (f : ℕ → Option X) (a n : ℕ) → ((j : ℕ) → a ≤ j → j < a + n → f j ≡ None)
    → first_some (map f (range_with_len a n)) ≡ None
first_none f a zero fails = refl
first_none f a (suc n) fails =
    let here = fails a (omega arith) (omega arith) in
    rw here (first_none f (a + 1) n (λ j low high. fails j (omega arith) (omega arith)))

pub none_first : {X : Type 0} (f : ℕ → Option X) (a n : ℕ) → first_some (map f (range_with_len a n)) ≡ None
    → (j : ℕ) → a ≤ j → j < a + n → f j ≡ None
none_first f a zero e j low high = absurd (omega arith)
none_first f a (suc n) e j low high =
    let (here, rest) = or_none (f a) (first_some (map f (range_with_len (a + 1) n))) e in
    elim (cases_eq a j) [
      | inl same ↦ rw (← same) here
      | inr ne ↦ none_first f (a + 1) n rest j (omega arith) (omega arith)
    ]

pub some_first : {X : Type 0} (f : ℕ → Option X) (a n : ℕ) (x : X) → first_some (map f (range_with_len a n)) ≡ Some x
    → (k : ℕ) × (a ≤ k) × (k < a + n) × (f k ≡ Some x)
some_first f a zero x e = absurd (cc)
some_first f a (suc n) x e = elim (or_some (f a) (first_some (map f (range_with_len (a + 1) n))) x e) [
  | inl here ↦ (a, omega arith, omega arith, here)
  | inr (none, rest) ↦ let (k, low, high, is) = some_first f (a + 1) n x rest in (k, omega arith, omega arith, is)
]

-- no place passes
pub position_none : {X : Type 0} (p : X → Bool) (xs : List X) → position p xs ≡ None → All (λ x. p x ≡ false) xs
position_none p xs e = elim (leb_tells (suc (position_or_len p xs)) (length xs)) [
  | inl (is, lt) ↦ absurd (let some : Some (position_or_len p xs) ≡ None = rw is at e in cc)
  | inr (is, ge) ↦ λ k d inside. fails_before_first p xs k d (omega arith)
]
