-- Lists read by `get_elem?`.
use Rattle.std.proofs.Common.{◌≡◌, ℕ, zero, suc, ◌+◌, ◌<◌, ◌≤◌, ◌≢◌, List, [], ◌∷◌, ◌++◌, length}
use Rattle.std.proofs.Common.{get_or, set, take, drop, sym, refl, ap, ◌∙◌, subst, arith, ⊎_elim}
use Rattle.std.proofs.Common.{◌⊎◌, inl, inr, replicate, Bool, true, false, length-append}
use Rattle.std.proofs.lemmas.Bool.{false≢true}
use Rattle.ds_rule.specs.Plays.{listed}
use mathlib.Core.Logic.{dite}
use mathlib.Core.Option.{some, some-injective, some-ne-none}
use native.Mathlib.Decide.{ℕ_discrete}
use lib.ListN.{get_elem?}
use Rattle.atomic_table.proofs.Lists.{at_set, at_longer, at_last}

module _ {A : Type 0} where
  -- an element is at a place of the list
  pub at_below : (l : List A) (i : ℕ) (a : A) → get_elem? l i ≡ some a → i < length l
  at_below [] i a e = absurd (some-ne-none a (sym e))
  at_below (x ∷ xs) zero a e = omega arith
  at_below (x ∷ xs) (suc i) a e = omega (arith, at_below xs i a e)

  pub at_get : (l : List A) (i : ℕ) (a d : A) → get_elem? l i ≡ some a → get_or l i d ≡ a
  at_get [] i a d e = absurd (some-ne-none a (sym e))
  at_get (x ∷ xs) zero a d e = some-injective x a e
  at_get (x ∷ xs) (suc i) a d e = at_get xs i a d e

  pub same_at : (l : List A) (i : ℕ) (a b : A) → get_elem? l i ≡ some a → get_elem? l i ≡ some b
      → a ≡ b
  same_at l i a b p q = some-injective a b (sym p ∙ q)

  -- one more place of which P holds
  pub one_more : (l : List A) (P : A → Type 0) (i : ℕ) (a : A) → a ≡ get_or l i a → P (get_or l i a)
      → ((k : ℕ) (x : A) → k < i → get_elem? l k ≡ some x → P x)
      → (k : ℕ) (x : A) → k < i + 1 → get_elem? l k ≡ some x → P x
  one_more l P i a is here before k x h at = dite (ℕ_discrete k i)
      (λ e. subst P (at_get l i x a (subst (λ j. get_elem? l j ≡ some x) e at)) here)
      (λ n. before k x (omega arith) at)

  pub at_or : (l : List A) (i : ℕ) (d : A) → i < length l → get_elem? l i ≡ some (get_or l i d)
  at_or [] i d h = absurd (omega arith)
  at_or (x ∷ xs) zero d h = refl
  at_or (x ∷ xs) (suc i) d h = at_or xs i d (omega arith)

  -- the element in the place of the one that was there
  pub set_there : (l : List A) (i : ℕ) (a b : A) → get_elem? l i ≡ some a
      → get_elem? (set l i b) i ≡ some b
  set_there [] i a b e = absurd (some-ne-none a (sym e))
  set_there (x ∷ xs) zero a b e = refl
  set_there (x ∷ xs) (suc i) a b e = set_there xs i a b e

  -- elements that f tells apart, after one took the place of another that f cannot tell from it
  pub apart_set : (f : A → ℕ) (l : List A) (i : ℕ) (a b : A) → get_elem? l i ≡ some a → f b ≡ f a
      → ((j k : ℕ) (x y : A) → get_elem? l j ≡ some x → get_elem? l k ≡ some y → f x ≡ f y → j ≡ k)
      → (j k : ℕ) (x y : A) → get_elem? (set l i b) j ≡ some x → get_elem? (set l i b) k ≡ some y
      → f x ≡ f y → j ≡ k
  apart_set f l i a b at same apart j k x y p q e =
      let old : (n : ℕ) (z : A) → get_elem? (set l i b) n ≡ some z → (w : A)
      × (get_elem? l n ≡ some w) × (f w ≡ f z) = λ n z r. ⊎_elim
      (λ t. (a, subst (λ m. get_elem? l m ≡ some a) (sym t.0) at, sym same ∙ ap f t.1))
      (λ t. (z, t.1, refl)) (at_set l i n b z r) in
      let u = old j x p in let v = old k y q in apart j k u.0 v.0 u.1 v.1 (u.2 ∙ (e ∙ sym v.2))

  -- P holds at each place, one more element in
  pub each_snoc : (l : List A) (a : A) (n : ℕ) (P : ℕ → A → Type 0) → length l ≡ n → P n a
      → ((i : ℕ) (x : A) → get_elem? l i ≡ some x → P i x)
      → (i : ℕ) (x : A) → get_elem? (l ++ a ∷ []) i ≡ some x → P i x
  each_snoc [] a n P long here before zero x e =
      subst (P 0) (some-injective a x e) (subst (λ k. P k a) (sym long) here)
  each_snoc [] a n P long here before (suc i) x e = absurd (some-ne-none x (sym e))
  each_snoc (y ∷ ys) a n P long here before zero x e = before zero x e
  each_snoc (y ∷ ys) a n P long here before (suc i) x e =
      each_snoc ys a (length ys) (λ k z. P (suc k) z) refl (subst (λ k. P k a) (sym long) here)
      (λ k z at. before (suc k) z at) i x e

  pub there_is : (l : List A) (i : ℕ) → i < length l → (a : A) × (get_elem? l i ≡ some a)
  there_is [] i h = absurd (omega arith)
  there_is (x ∷ xs) zero h = (x, refl)
  there_is (x ∷ xs) (suc i) h = there_is xs i (omega arith)

  pub replicate-default : (n i : ℕ) (a : A) → get_or (replicate n a) i a ≡ a
  replicate-default zero i a = refl
  replicate-default (suc n) zero a = refl
  replicate-default (suc n) (suc i) a = replicate-default n i a

pub held_inside : (n i : ℕ) → get_or (replicate n true) i false ≡ true → i < n
held_inside zero i e = absurd (false≢true e)
held_inside (suc n) zero e = omega arith
held_inside (suc n) (suc i) e = omega (arith, held_inside n i e)

module _ {A : Type 0} where
  pub at_end : (l : List A) (a b : A) (j : ℕ) → get_elem? (l ++ a ∷ []) j ≡ some b
      → (get_elem? l j ≡ some b) ⊎ ((j ≡ length l) × (a ≡ b))
  at_end [] a b zero e = inr (refl, some-injective a b e)
  at_end [] a b (suc j) e = absurd (some-ne-none b (sym e))
  at_end (x ∷ xs) a b zero e = inl e
  at_end (x ∷ xs) a b (suc j) e = ⊎_elim (λ t. inl t) (λ t. inr (ap suc t.0, t.1))
      (at_end xs a b j e)

-- f of each number below n: how many, and which
pub length-listed : {A : Type 0} (f : ℕ → A) (n : ℕ) → length (listed f n) ≡ n
length-listed f zero = refl
length-listed f (suc n) = length-append (listed f n) (f n ∷ []) ∙ omega (arith, length-listed f n)

pub at_listed : {A : Type 0} (f : ℕ → A) (n i : ℕ) → i < n → get_elem? (listed f n) i ≡ some (f i)
at_listed f zero i h = absurd (omega arith)
at_listed f (suc n) i h = dite (ℕ_discrete i n)
    (λ e. subst (λ k. get_elem? (listed f n ++ f n ∷ []) i ≡ some (f k)) (sym e)
    (at_last (listed f n) (f n) i (length-listed f n ∙ sym e)))
    (λ e. at_longer (listed f n) (f n ∷ []) i (f i) (at_listed f n i (omega arith)))

pub get-listed : {A : Type 0} (f : ℕ → A) (n i : ℕ) (d : A) → i < n → get_or (listed f n) i d ≡ f i
get-listed f n i d h = at_get (listed f n) i (f i) d (at_listed f n i h)

pub get-beyond : {A : Type 0} (l : List A) (i : ℕ) (d : A) → length l ≤ i → get_or l i d ≡ d
get-beyond [] i d h = refl
get-beyond (x ∷ xs) zero d h = absurd (omega arith)
get-beyond (x ∷ xs) (suc i) d h = get-beyond xs i d (omega arith)

-- a node that is held is below the number of the flags
pub has_below : (hs : List Bool) (l : ℕ) → get_or hs l false ≡ true → l < length hs
has_below [] l e = absurd (false≢true e)
has_below (x ∷ xs) zero e = omega arith
has_below (x ∷ xs) (suc l) e = omega (arith, has_below xs l e)

-- the place in a list of the place j of the list without its i-th element
abbrev pub place_without : ℕ → ℕ → ℕ
place_without zero j = suc j
place_without (suc i) zero = zero
place_without (suc i) (suc j) = suc (place_without i j)

module _ {A : Type 0} where
  pub at_removed : (l : List A) (i j : ℕ) → i < length l
      → get_elem? (take i l ++ drop (suc i) l) j ≡ get_elem? l (place_without i j)
  at_removed [] i j h = absurd (omega arith)
  at_removed (x ∷ xs) zero j h = refl
  at_removed (x ∷ xs) (suc i) zero h = refl
  at_removed (x ∷ xs) (suc i) (suc j) h = at_removed xs i j (omega arith)

  -- an element of two lists one after the other
  pub at_either : (l m : List A) (i : ℕ) (a : A) → get_elem? (l ++ m) i ≡ some a
      → (get_elem? l i ≡ some a) ⊎ ((j : ℕ) × (i ≡ length l + j) × (get_elem? m j ≡ some a))
  at_either [] m i a e = inr (i, omega arith, e)
  at_either (x ∷ xs) m zero a e = inl e
  at_either (x ∷ xs) m (suc i) a e = ⊎_elim (λ t. inl t) (λ t. inr (t.0, omega (arith, t.1), t.2))
      (at_either xs m i a e)

  pub at_second : (l m : List A) (j : ℕ) (a : A) → get_elem? m j ≡ some a
      → get_elem? (l ++ m) (length l + j) ≡ some a
  at_second [] m j a e = subst (λ k. get_elem? m k ≡ some a) (omega arith) e
  at_second (x ∷ xs) m j a e = subst (λ k. get_elem? (x ∷ (xs ++ m)) k ≡ some a)
      (let t : suc (length xs + j) ≡ suc (length xs) + j = omega arith in t) (at_second xs m j a e)

pub by_bool : (P : Type 0) (b : Bool) → (b ≡ true → P) → (b ≡ false → P) → P
by_bool P true set clear = set refl
by_bool P false set clear = clear refl

pub only_item : {A : Type 0} (a b : A) (i : ℕ) → get_elem? (a ∷ []) i ≡ some b → (i ≡ 0) × (a ≡ b)
only_item a b zero e = (refl, some-injective a b e)
only_item a b (suc i) e = absurd (some-ne-none b (sym e))

-- a place in two lists one after the other
pub get-first : (xs ys : List ℕ) (i : ℕ) → i < length xs → get_or (xs ++ ys) i 0 ≡ get_or xs i 0
get-first [] ys i h = absurd (omega arith)
get-first (x ∷ xs) ys zero h = refl
get-first (x ∷ xs) ys (suc i) h = get-first xs ys i (omega arith)

pub get-second : (xs ys : List ℕ) (n i : ℕ) → n ≡ length xs
    → get_or (xs ++ ys) (n + i) 0 ≡ get_or ys i 0
get-second [] ys n i e = let k : n + i ≡ i = omega arith in ap (λ (j : ℕ). get_or ys j 0) k
get-second (x ∷ xs) ys n i e = let k : n + i ≡ suc (length xs + i) = omega arith in
    ap (λ (j : ℕ). get_or (x ∷ (xs ++ ys)) j 0) k ∙ get-second xs ys (length xs) i refl
