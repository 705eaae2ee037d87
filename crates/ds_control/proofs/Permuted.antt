-- A relation that holds of each two items of a list holds of each two when they stand in another order.
use Rattle.std.proofs.Common.{◌≡◌, ◌≢◌, ℕ, ◌<◌, inl, inr, List, length, get_or, sym, subst, arith, ap, refl, ◌∙◌, AllPairs, IsPermutation}
use Rattle.std.specs.List.{swap}
use Rattle.std.proofs.lemmas.Bool.{cases_eq, cases_lt}
use Rattle.std.proofs.lemmas.List.Edits.{Swapped, swapped_from_swap, length-swap}
use Rattle.std.proofs.lemmas.List.Sorted.{IsPermutation-keeps}

module _ {X : Type 0} (R : X → X → Type 0) (turn : (x y : X) → R x y → R y x) where
  -- at each two places
  abbrev Apart : List X → Type 0
  Apart xs = (i j : ℕ) (d : X) → i ≢ j → i < length xs → j < length xs → R (get_or xs i d) (get_or xs j d)

  apart : (xs : List X) → AllPairs R xs → Apart xs
  apart xs pairs i j d other low high = elim (cases_lt i j) [
    | inl below ↦ pairs i j d below high
    | inr above ↦ turn (get_or xs j d) (get_or xs i d) (pairs j i d (omega arith) low)
  ]

  -- where an item of the swapped list came from
  record From (xs : List X) (i : ℕ) (x : X) (a b : ℕ) (d : X) : Type 0 where
    place : ℕ
    inside : place < length xs
    is : x ≡ get_or xs place d
    which : (i ≡ a → place ≡ b) × (i ≢ a → i ≡ b → place ≡ a) × (i ≢ a → i ≢ b → place ≡ i)

  from : (xs : List X) (a b i : ℕ) (d : X) → a < length xs → b < length xs → i < length xs → From xs i (get_or (swap xs a b) i d) a b d
  from xs a b i d a_in b_in inside =
      let swapped : Swapped (λ (i : ℕ). get_or xs i d) (λ (i : ℕ). get_or (swap xs a b) i d) a b = swapped_from_swap xs (swap xs a b) a b d a_in b_in refl in
      elim (cases_eq i a) [
        | inl e ↦ record { place = b; inside = b_in; is = ap (λ (i : ℕ). get_or (swap xs a b) i d) e ∙ swapped.0; which = (λ _. refl, λ ne. absurd (ne e), λ ne. absurd (ne e)) }
        | inr ne ↦ elim (cases_eq i b) [
          | inl e ↦ record { place = a; inside = a_in; is = ap (λ (i : ℕ). get_or (swap xs a b) i d) e ∙ swapped.1; which = (λ e. absurd (ne e), λ _ _. refl, λ _ far. absurd (far e)) }
          | inr far ↦ record { place = i; inside = inside; is = swapped.2 i ne far; which = (λ e. absurd (ne e), λ _ e. absurd (far e), λ _ _. refl) }
        ]
      ]

  places_differ : (xs : List X) (a b i j : ℕ) (x y d : X) → i ≢ j → (one : From xs i x a b d) → (two : From xs j y a b d) → one.place ≢ two.place
  places_differ xs a b i j x y d other one two same =
      elim (cases_eq i a) [
        | inl ia ↦ elim (cases_eq j a) [
          | inl ja ↦ other (omega arith)
          | inr nja ↦ elim (cases_eq j b) [
            | inl jb ↦ (let p : one.place ≡ b = one.which.0 ia in let q : two.place ≡ a = two.which.1 nja jb in other (omega arith))
            | inr njb ↦ (let p : one.place ≡ b = one.which.0 ia in let q : two.place ≡ j = two.which.2 nja njb in njb (omega arith))
          ]
        ]
        | inr nia ↦ elim (cases_eq i b) [
          | inl ib ↦ elim (cases_eq j a) [
            | inl ja ↦ (let p : one.place ≡ a = one.which.1 nia ib in let q : two.place ≡ b = two.which.0 ja in other (omega arith))
            | inr nja ↦ elim (cases_eq j b) [
              | inl jb ↦ other (omega arith)
              | inr njb ↦ (let p : one.place ≡ a = one.which.1 nia ib in let q : two.place ≡ j = two.which.2 nja njb in nja (omega arith))
            ]
          ]
          | inr nib ↦ (let p : one.place ≡ i = one.which.2 nia nib in elim (cases_eq j a) [
            | inl ja ↦ (let q : two.place ≡ b = two.which.0 ja in nib (omega arith))
            | inr nja ↦ elim (cases_eq j b) [
              | inl jb ↦ (let q : two.place ≡ a = two.which.1 nja jb in nia (omega arith))
              | inr njb ↦ (let q : two.place ≡ j = two.which.2 nja njb in other (omega arith))
            ]
          ])
        ]
      ]

  swapped_apart : (xs : List X) (a b : ℕ) → a < length xs → b < length xs → Apart xs → Apart (swap xs a b)
  swapped_apart xs a b a_in b_in all i j d other low high =
      let size : length (swap xs a b) ≡ length xs = length-swap xs a b in
      let one : From xs i (get_or (swap xs a b) i d) a b d = from xs a b i d a_in b_in (omega arith) in
      let two : From xs j (get_or (swap xs a b) j d) a b d = from xs a b j d a_in b_in (omega arith) in
      subst (λ (x : X). R x (get_or (swap xs a b) j d)) (sym one.is) (subst (R (get_or xs one.place d)) (sym two.is)
      (all one.place two.place d (places_differ xs a b i j (get_or (swap xs a b) i d) (get_or (swap xs a b) j d) d other one two) one.inside two.inside))

  pub pairs_permuted : (xs ys : List X) → IsPermutation xs ys → AllPairs R xs → AllPairs R ys
  pairs_permuted xs ys same pairs i j d below inside =
      IsPermutation-keeps xs Apart (apart xs pairs) swapped_apart ys same i j d (λ e. absurd (omega arith)) (omega arith) inside
