-- Lists with several items for each item of another.
use Rattle.std.proofs.Common.{◌≡◌, ℕ, zero, suc, ◌+◌, ◌*◌, ◌<◌, List, [], ◌∷◌, length, get_or, ap, sym, ◌∙◌, subst, arith, All, AllPairs, Contains, length-append}
use Rattle.std.specs.List.{flat_map}
use Rattle.std.proofs.lemmas.List.Concat.{flat_map-cons}
use Rattle.std.proofs.lemmas.List.Elements.{All-append, All-cons, All-head, All-nil, All-tail, Contains-append_left, Contains-append_right}
use Rattle.std.proofs.lemmas.List.Kept.{AllPairs-cons}
use Rattle.ds_control.proofs.TwoForEach.{pairs_append}

-- what holds of each item, one after the other
abbrev pub Each : {A : Type 0} → (A → Type 0) → List A → Type 0
Each P [] = Unit {0}
Each P (x ∷ xs) = P x × Each P xs

pub all_each : {A : Type 0} (P : A → Type 0) (xs : List A) → Each P xs → All P xs
all_each P [] each = All-nil P
all_each P (x ∷ xs) each = All-cons P x xs each.0 (all_each P xs each.1)

-- and of each two
abbrev pub EachTwo : {A : Type 0} → (A → A → Type 0) → List A → Type 0
EachTwo R [] = Unit {0}
EachTwo R (x ∷ xs) = Each (R x) xs × EachTwo R xs

pub pairs_each : {A : Type 0} (R : A → A → Type 0) (xs : List A) → EachTwo R xs → AllPairs R xs
pairs_each R [] each = λ i j d below inside. absurd (let h : j < 0 = inside in omega (h, arith))
pairs_each R (x ∷ xs) each = AllPairs-cons R x xs (all_each (R x) xs each.0) (pairs_each R xs each.1)

module _ {X A : Type 0} (f : X → List A) where
  -- an item of one of the lists is one of all
  pub in_flat : (xs : List X) (x : X) (y : A) → Contains xs x → Contains (f x) y → Contains (flat_map f xs) y
  in_flat [] x y (k, inside, is) at = absurd (let h : k < 0 = inside in omega arith)
  in_flat (z ∷ xs) x y (zero, inside, is) at =
      subst (λ (ys : List A). Contains ys y) (sym (flat_map-cons f z xs)) (Contains-append_left (f z) (flat_map f xs) y (subst (λ (x : X). Contains (f x) y) (sym is) at))
  in_flat (z ∷ xs) x y (suc k, inside, is) at =
      subst (λ (ys : List A). Contains ys y) (sym (flat_map-cons f z xs)) (Contains-append_right (f z) (flat_map f xs) y (in_flat xs x y (k, omega (inside, arith), is) at))

  -- what holds of the items of each list holds of all
  pub all_flat : (P : A → Type 0) (xs : List X) → All (λ x. All P (f x)) xs → All P (flat_map f xs)
  all_flat P [] all = All-nil P
  all_flat P (x ∷ xs) all =
      subst (All P) (sym (flat_map-cons f x xs)) (All-append P (f x) (flat_map f xs) (All-head (λ x. All P (f x)) x xs all) (all_flat P xs (All-tail (λ x. All P (f x)) x xs all)))

  -- so many items each
  pub length_flat : (n : ℕ) → ((x : X) → length (f x) ≡ n) → (xs : List X) → length (flat_map f xs) ≡ n * length xs
  length_flat n each [] = omega arith
  length_flat n each (x ∷ xs) =
      let here : length (f x) ≡ n = each x in
      let rest : length (flat_map f xs) ≡ n * length xs = length_flat n each xs in
      ap (λ (ys : List A). length ys) (flat_map-cons f x xs) ∙ (length-append (f x) (flat_map f xs) ∙ (ap (λ (m : ℕ). m + length (flat_map f xs)) here ∙ (ap (λ (m : ℕ). n + m) rest ∙ next n (length xs))))
    where
      next : (n m : ℕ) → n + n * m ≡ n * suc m
      next n m = grind arith

module _ {X A : Type 0} (f : X → List A) (R : A → A → Type 0) where
  -- each item of the one list against each of the other
  abbrev pub Across : X → X → Type 0
  Across x y = All (λ a. All (R a) (f y)) (f x)

  swap_all : (xs : List X) (a : A) → All (λ y. All (R a) (f y)) xs → All (R a) (flat_map f xs)
  swap_all xs a all = all_flat f (R a) xs all

  -- pairs within one list and across two
  pub pairs_flat : (xs : List X) → All (λ x. AllPairs R (f x)) xs → AllPairs Across xs → AllPairs R (flat_map f xs)
  pairs_flat [] within across = λ i j d below inside. absurd (let h : j < 0 = inside in omega (h, arith))
  pairs_flat (x ∷ xs) within across =
      subst (AllPairs R) (sym (flat_map-cons f x xs)) (pairs_append R (f x) (flat_map f xs) (within 0 x (omega arith))
      (pairs_flat xs (λ k d inside. within (suc k) d (omega (inside, arith))) (λ i j d below inside. across (suc i) (suc j) d (omega (below, arith)) (omega (inside, arith))))
      (λ k d inside. swap_all xs (get_or (f x) k d) (λ j y low. across 0 (suc j) y (omega arith) (omega (low, arith)) k d inside)))
