-- Lists of numbers, one list after another.
use Rattle.std.proofs.Common.{◌≡◌, ◌∙◌, ℕ, suc, ◌+◌, ◌-◌, ◌<◌, Bool, true, false, cond, List}
use Rattle.std.proofs.Common.{[], ◌∷◌, ◌++◌, length, get_or, refl, sym, ap, subst, arith, inl, inr, length-append}
use Rattle.std.specs.Prelude.{All, AllPairs, Any, Contains}
use Rattle.std.specs.List.{filter, flat_map}
use Rattle.std.proofs.lemmas.Bool.{cases_lt}
use Rattle.std.proofs.lemmas.List.{get_or-append-add, get_or_append_left}
use Rattle.std.proofs.lemmas.List.Concat.{flat_map-cons}
use Rattle.std.proofs.lemmas.List.Elements.{All-contains, All-contains_itself, All-filter, All-head, All-tail}
use Rattle.std.proofs.lemmas.List.Elements.{Contains-append_cases, Contains-append_left, Contains-append_right}
use Rattle.std.proofs.lemmas.List.Elements.{Contains-get_or, filter_passes}
use Rattle.ds_base.proofs.ListLemmas.{Contains-head, Contains-split, Contains-tail}

pub not_in_nil : (x : ℕ) → ¬ Contains [] x
not_in_nil x (k, inside, is) = absurd (let h : k < 0 = inside in omega (h, arith))

-- what passes a test
pub filter_has : (p : ℕ → Bool) (xs : List ℕ) (x : ℕ) → Contains (filter p xs) x
    → Contains xs x × (p x ≡ true)
filter_has p xs x has = (
  All-contains (Contains xs) (filter p xs) x (All-filter p (Contains xs) xs (All-contains_itself xs)) has,
  All-contains (λ y. p y ≡ true) (filter p xs) x (filter_passes p xs) has,
)

kept : (b : Bool) (y x : ℕ) (zs : List ℕ) → Contains zs x → Contains (cond b (y ∷ zs) zs) x
kept true y x zs has = Contains-tail y zs x has
kept false y x zs has = has

first_kept : (b : Bool) (y : ℕ) (zs : List ℕ) → b ≡ true → Contains (cond b (y ∷ zs) zs) y
first_kept b y zs is =
    subst (λ (a : Bool). Contains (cond a (y ∷ zs) zs) y) (sym is) (Contains-head y zs)

pub has_filter : (p : ℕ → Bool) (xs : List ℕ) (x : ℕ) → Contains xs x → p x ≡ true
    → Contains (filter p xs) x
has_filter p [] x has is = absurd (not_in_nil x has)
has_filter p (y ∷ ys) x has is = elim (Contains-split y ys x has) [
  | inl e ↦
      subst (λ (z : ℕ). Contains (filter p (y ∷ ys)) z) e
      (first_kept (p y) y (filter p ys) (ap p e ∙ is))
  | inr later ↦ kept (p y) y x (filter p ys) (has_filter p ys x later is)
]

-- what stands in one of the lists
pub flat_has : (f : ℕ → List ℕ) (xs : List ℕ) (k : ℕ) → Contains (flat_map f xs) k
    → Any (λ a. Contains (f a) k) xs
flat_has f [] k has = absurd (not_in_nil k has)
flat_has f (x ∷ xs) k has = elim (Contains-append_cases (f x) (flat_map f xs) k
    (subst (λ (ys : List ℕ). Contains ys k) (flat_map-cons f x xs) has)) [
      | inl here ↦ (0, x, omega arith, refl, here)
      | inr later ↦
          (let (j, a, inside, is, there) = flat_has f xs k later in (suc j, a, omega (inside, arith), is, there))
    ]

pub has_flat : (f : ℕ → List ℕ) (xs : List ℕ) (a k : ℕ) → Contains xs a → Contains (f a) k
    → Contains (flat_map f xs) k
has_flat f [] a k has there = absurd (not_in_nil a has)
has_flat f (x ∷ xs) a k has there =
    subst (λ (ys : List ℕ). Contains ys k) (sym (flat_map-cons f x xs))
    (elim (Contains-split x xs a has) [
      | inl e ↦
          Contains-append_left (f x) (flat_map f xs) k
          (subst (λ (y : ℕ). Contains (f y) k) (sym e) there)
      | inr later ↦ Contains-append_right (f x) (flat_map f xs) k (has_flat f xs a k later there)
    ])

module _ (R : ℕ → ℕ → Type 0) where
  pub pairs_append : (xs ys : List ℕ) → AllPairs R xs → AllPairs R ys
      → ((x y : ℕ) → Contains xs x → Contains ys y → R x y) → AllPairs R (xs ++ ys)
  pairs_append xs ys left right between i j d below inside =
      let size : length (xs ++ ys) ≡ length xs + length ys = length-append xs ys in
      elim (cases_lt j (length xs)) [
        | inl low ↦
            subst (λ (a : ℕ). R a (get_or (xs ++ ys) j d))
            (sym (get_or_append_left xs ys d i (omega (below, low, arith))))
            (subst (R (get_or xs i d)) (sym (get_or_append_left xs ys d j low)) (left i j d below low))
        | inr past ↦
            (let m : ℕ = j - length xs in
            let jm : length xs + m ≡ j = omega (past, arith) in
            let near : m < length ys = omega (inside, size, jm, arith) in
            let at_j : get_or (xs ++ ys) j d ≡ get_or ys m d =
            ap (λ (n : ℕ). get_or (xs ++ ys) n d) (sym jm) ∙ get_or-append-add xs ys m d in
            elim (cases_lt i (length xs)) [
              | inl low ↦
                  subst (λ (a : ℕ). R a (get_or (xs ++ ys) j d)) (sym (get_or_append_left xs ys d i low))
                  (subst (R (get_or xs i d)) (sym at_j)
                  (between (get_or xs i d) (get_or ys m d) (Contains-get_or xs i d low) (Contains-get_or ys m d near)))
              | inr past_i ↦
                  (let l : ℕ = i - length xs in
                  let il : length xs + l ≡ i = omega (past_i, arith) in
                  let at_i : get_or (xs ++ ys) i d ≡ get_or ys l d =
                  ap (λ (n : ℕ). get_or (xs ++ ys) n d) (sym il) ∙ get_or-append-add xs ys l d in
                  subst (λ (a : ℕ). R a (get_or (xs ++ ys) j d)) (sym at_i)
                  (subst (R (get_or ys l d)) (sym at_j) (right l m d (omega (below, il, jm, arith)) near)))
            ])
      ]

  none_pairs : AllPairs R []
  none_pairs i j d below inside = absurd (let h : j < 0 = inside in omega (h, arith))

  -- pairs within one list and between two of them
  pub pairs_flat : (f : ℕ → List ℕ) (xs : List ℕ) → All (λ a. AllPairs R (f a)) xs
      → AllPairs (λ a b. (x y : ℕ) → Contains (f a) x → Contains (f b) y → R x y) xs
      → AllPairs R (flat_map f xs)
  pairs_flat f [] within between = none_pairs
  pairs_flat f (a ∷ rest) within between =
      subst (λ (ys : List ℕ). AllPairs R ys) (sym (flat_map-cons f a rest))
      (pairs_append (f a) (flat_map f rest) (All-head (λ b. AllPairs R (f b)) a rest within)
      (pairs_flat f rest (All-tail (λ b. AllPairs R (f b)) a rest within)
      (λ i j d below inside. between (suc i) (suc j) d (omega (below, arith)) (omega (inside, arith))))
      (λ x y has_x has_y.
      let (k, b, low, is, there) = flat_has f rest y has_y in
      subst (λ (n : ℕ). (x y : ℕ) → Contains (f a) x → Contains (f n) y → R x y) is
      (between 0 (suc k) b (omega arith) (omega (low, arith))) x y has_x there))
