-- Lists in an order that have the same elements are the same.
use Rattle.std.proofs.Common.{◌≡◌, ◌≢◌, ◌⊎◌, inl, inr, ℕ, suc, ◌+◌, ◌<◌, List, [], ◌∷◌, refl, sym, ◌∙◌, ap, subst, arith, AllPairs, Contains, IsPermutation}
use Rattle.std.specs.List.{sum_by}
use Rattle.std.proofs.lemmas.List.Sorted.{sum_by-IsPermutation}
use Rattle.std.proofs.lemmas.List.Sums.{sum_by-cons}
use Rattle.ds_accept.proofs.SubsetLength.{in_which}

module _ {X : Type 0} where
  one_if : (x y : X) → (x ≡ y) ⊎ (x ≢ y) → ℕ
  one_if x y (inl e) = 1
  one_if x y (inr ne) = 0

  one_same : (x y : X) (which : (x ≡ y) ⊎ (x ≢ y)) → x ≡ y → one_if x y which ≡ 1
  unfolding one_if
  one_same x y (inl e) is = refl
  one_same x y (inr ne) is = absurd (ne is)

  one_other : (x y : X) (which : (x ≡ y) ⊎ (x ≢ y)) → x ≢ y → one_if x y which ≡ 0
  unfolding one_if
  one_other x y (inl e) ne = absurd (ne e)
  one_other x y (inr differs) ne = refl

  pairs_tail : (R : X → X → Type 0) (x : X) (xs : List X) → AllPairs R (x ∷ xs) → AllPairs R xs
  pairs_tail R x xs pairs i j d below inside = pairs (suc i) (suc j) d (omega (below, arith)) (omega (inside, arith))

  pairs_head : (R : X → X → Type 0) (x : X) (xs : List X) (y : X) → AllPairs R (x ∷ xs) → Contains xs y → R x y
  pairs_head R x xs y pairs (k, inside, is) = subst (R x) is (pairs 0 (suc k) y (omega arith) (omega (inside, arith)))

  module _ (told : (x y : X) → (x ≡ y) ⊎ (x ≢ y)) where
    -- how often an element stands in a list
    abbrev times : X → List X → ℕ
    times x xs = sum_by (λ y. one_if x y (told x y)) xs

    times_cons : (x y : X) (xs : List X) → times x (y ∷ xs) ≡ one_if x y (told x y) + times x xs
    times_cons x y xs = sum_by-cons (λ y. one_if x y (told x y)) y xs

    at_least : (x : X) (xs : List X) → 0 < times x (x ∷ xs)
    at_least x xs =
        let cons : times x (x ∷ xs) ≡ one_if x x (told x x) + times x xs = times_cons x x xs in
        let one : one_if x x (told x x) ≡ 1 = one_same x x (told x x) refl in
        omega (cons, one, arith)

    stands : (x : X) (xs : List X) → 0 < times x xs → Contains xs x
    stands x [] more = absurd (let h : 0 < 0 = more in omega (h, arith))
    stands x (y ∷ xs) more = elim (told x y) [
      | inl e ↦ (0, omega arith, sym e)
      | inr ne ↦ (
          let cons : times x (y ∷ xs) ≡ one_if x y (told x y) + times x xs = times_cons x y xs in
          let none : one_if x y (told x y) ≡ 0 = one_other x y (told x y) ne in
          let (k, inside, is) = stands x xs (omega (more, cons, none, arith)) in
          (suc k, omega (inside, arith), is))
    ]

    less_head : (x y z : X) (xs ys : List X) → x ≡ y → times z (x ∷ xs) ≡ times z (y ∷ ys) → times z xs ≡ times z ys
    less_head x y z xs ys e same =
        let one : times z (x ∷ xs) ≡ one_if z x (told z x) + times z xs = times_cons z x xs in
        let two : times z (y ∷ ys) ≡ one_if z y (told z y) + times z ys = times_cons z y ys in
        let heads : one_if z x (told z x) ≡ one_if z y (told z y) = ap (λ (w : X). one_if z w (told z w)) e in
        omega (one, two, heads, same, arith)

    module _ (R : X → X → Type 0) (turns : (x y : X) → R x y → R y x → x ≡ y) where
      heads_same : (x y : X) (xs ys : List X) → AllPairs R (x ∷ xs) → AllPairs R (y ∷ ys)
          → ((z : X) → times z (x ∷ xs) ≡ times z (y ∷ ys)) → x ≡ y
      heads_same x y xs ys first second same =
          let there : Contains (y ∷ ys) x = stands x (y ∷ ys) (let e = same x in let h = at_least x xs in omega (e, h, arith)) in
          let back : Contains (x ∷ xs) y = stands y (x ∷ xs) (let e = same y in let h = at_least y ys in omega (e, h, arith)) in
          elim (in_which y ys x there) [
            | inl e ↦ sym e
            | inr later ↦ elim (in_which x xs y back) [
              | inl e ↦ e
              | inr behind ↦ turns x y (pairs_head R x xs y first behind) (pairs_head R y ys x second later)
            ]
          ]

      same_by_times : (xs ys : List X) → AllPairs R xs → AllPairs R ys → ((z : X) → times z xs ≡ times z ys) → xs ≡ ys
      same_by_times [] [] first second same = refl
      same_by_times [] (y ∷ ys) first second same =
          absurd (let e : 0 ≡ times y (y ∷ ys) = same y in let h = at_least y ys in omega (e, h, arith))
      same_by_times (x ∷ xs) [] first second same =
          absurd (let e : times x (x ∷ xs) ≡ 0 = same x in let h = at_least x xs in omega (e, h, arith))
      same_by_times (x ∷ xs) (y ∷ ys) first second same =
          let e : x ≡ y = heads_same x y xs ys first second same in
          let rest : xs ≡ ys = same_by_times xs ys (pairs_tail R x xs first) (pairs_tail R y ys second) (λ z. less_head x y z xs ys e (same z)) in
          rw (e, rest) refl

      -- two lists in an order that can't turn, with the elements of one list, are the same
      pub same_sorted : (of xs ys : List X) → AllPairs R xs → AllPairs R ys → IsPermutation of xs → IsPermutation of ys → xs ≡ ys
      same_sorted of xs ys first second one two = same_by_times xs ys first second
          (λ z. sum_by-IsPermutation (λ y. one_if z y (told z y)) of xs one ∙ sym (sum_by-IsPermutation (λ y. one_if z y (told z y)) of ys two))
