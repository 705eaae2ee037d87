-- Classes get their places one after another, and numbers by these.
use Rattle.std.proofs.Common.{◌≡◌, ◌≢◌, ◌∙◌, ℕ, ◌+◌, ◌<◌, ◌≤◌, List, [], ◌∷◌, ◌++◌, length, get_or}
use Rattle.std.proofs.Common.{refl, sym, ap, subst, arith, inl, inr, length-append}
use Rattle.std.specs.Prelude.{All, Contains}
use Rattle.std.specs.List.Sorted.{IsNonDecreasingBy}
use Rattle.std.proofs.Math.ListN.{set}
use Rattle.std.proofs.lemmas.Bool.{cases_eq}
use Rattle.std.proofs.lemmas.List.{get_or-set_other, get_or-set_same, get_or_append_left, get_or_push, length-set}
use Rattle.std.proofs.lemmas.List.Elements.{Contains-append_left, Contains-push_cases}
use Rattle.std.proofs.lemmas.List.Quantifiers.{Any-push}
use Rattle.ds_base.proofs.ListLemmas.{get_or-default}
use Rattle.ds_opening.specs.Numbers.{AreRenumbered, AreOneLess, AreClassPlaces}
use Rattle.ds_opening.proofs.ListPrefix.{any_left}

-- what rises along a list rises along its front, up to what comes next
front_rises : (n : ℕ → ℕ) (xs : List ℕ) (x : ℕ) → IsNonDecreasingBy n (xs ++ x ∷ []) → IsNonDecreasingBy n xs
front_rises n xs x up i j d below inside =
    let long : length (xs ++ x ∷ []) ≡ length xs + 1 = length-append xs (x ∷ []) in
    let at_i : get_or (xs ++ x ∷ []) i d ≡ get_or xs i d = get_or_append_left xs (x ∷ []) d i (omega (below, inside, arith)) in
    let at_j : get_or (xs ++ x ∷ []) j d ≡ get_or xs j d = get_or_append_left xs (x ∷ []) d j inside in
    subst (λ (m : ℕ). n m ≤ n (get_or xs j d)) at_i
    (subst (λ (m : ℕ). n (get_or (xs ++ x ∷ []) i d) ≤ n m) at_j (up i j d below (omega (inside, long, arith))))

last_above : (n : ℕ → ℕ) (xs : List ℕ) (x a : ℕ) → IsNonDecreasingBy n (xs ++ x ∷ []) → Contains xs a → n a ≤ n x
last_above n xs x a up (i, inside, is) =
    let long : length (xs ++ x ∷ []) ≡ length xs + 1 = length-append xs (x ∷ []) in
    let at_i : get_or (xs ++ x ∷ []) i a ≡ a = get_or_append_left xs (x ∷ []) a i inside ∙ is in
    let at_x : get_or (xs ++ x ∷ []) (length xs) a ≡ x = get_or_push xs x a (length xs) refl in
    subst (λ (m : ℕ). n m ≤ n x) at_i
    (subst (λ (m : ℕ). n (get_or (xs ++ x ∷ []) i a) ≤ n m) at_x (up i (length xs) a (omega (inside, arith)) (omega (long, arith))))

module _ (done classes : List ℕ) (count : ℕ) (places : List ℕ) (most : ℕ) (so_far : AreClassPlaces done classes count places most) (table : ℕ) where
  abbrev class : ℕ
  class = get_or classes table 0

  abbrev more : List ℕ
  more = done ++ table ∷ []

  longer : length more ≡ length done + 1
  longer = length-append done (table ∷ [])

  -- a table whose class has come
  module _ (some : 0 < get_or places class 0) where
    -- a table of its class that has come
    for_it : (n : ℕ → ℕ) → ((a b : ℕ) → Contains more a → Contains more b → get_or classes a 0 ≡ get_or classes b 0 → n a ≡ n b)
        → (x : ℕ) → Contains more x → (y : ℕ) × Contains done y × (get_or classes y 0 ≡ get_or classes x 0) × (n y ≡ n x)
    for_it n same x has = elim (Contains-push_cases done table x has) [
      | inl early ↦ (x, early, refl, refl)
      | inr e ↦
          (let (k, y, inside, is, at) = so_far.inhabited class some in
          let there : Contains done y = (k, inside, is) in
          let here : get_or classes y 0 ≡ get_or classes x 0 = at ∙ ap (λ (m : ℕ). get_or classes m 0) e in
          (y, there, here, same y x (Contains-append_left done (table ∷ []) y there) has here))
    ]

    pub places_old : AreClassPlaces more classes count places most
    places_old = record {
      long = so_far.long;
      low = so_far.low;
      few = omega (so_far.few, longer, arith);
      distinct = so_far.distinct;
      placed = λ k has. elim (Contains-push_cases done table k has) [
        | inl early ↦ so_far.placed k early
        | inr e ↦ subst (λ (m : ℕ). 0 < get_or places (get_or classes m 0) 0) e some
      ];
      inhabited = λ p above. any_left (λ k. get_or classes k 0 ≡ p) done (table ∷ []) (so_far.inhabited p above);
      rising = λ n up same a b has_a has_b low.
          let (x, in_x, class_x, is_x) = for_it n same a has_a in
          let (y, in_y, class_y, is_y) = for_it n same b has_b in
          let under : get_or places (get_or classes x 0) 0 ≤ get_or places (get_or classes y 0) 0 =
          subst (λ (m : ℕ). get_or places m 0 ≤ get_or places (get_or classes y 0) 0) (sym class_x)
          (subst (λ (m : ℕ). get_or places (get_or classes a 0) 0 ≤ get_or places m 0) (sym class_y) low) in
          let r : n x ≤ n y =
          so_far.rising n (front_rises n done table up)
          (λ u v in_u in_v. same u v (Contains-append_left done (table ∷ []) u in_u) (Contains-append_left done (table ∷ []) v in_v))
          x y in_x in_y under in
          omega (r, is_x, is_y, arith);
    }

  -- a table whose class has not come
  module _ (none : get_or places class 0 ≡ 0) (inside : class < count) where
    abbrev next : List ℕ
    next = set places class (most + 1)

    here : get_or next class 0 ≡ most + 1
    here = get_or-set_same places class (most + 1) 0 (omega (inside, so_far.long, arith))

    other : (p : ℕ) → p ≢ class → get_or next p 0 ≡ get_or places p 0
    other p ne = get_or-set_other places class p (most + 1) 0 ne

    fresh : (k : ℕ) → Contains done k → get_or classes k 0 ≢ class
    fresh k has e =
        let some : 0 < get_or places (get_or classes k 0) 0 = so_far.placed k has in
        let zero_there : get_or places (get_or classes k 0) 0 ≡ 0 = ap (λ (m : ℕ). get_or places m 0) e ∙ none in
        absurd (omega (some, zero_there, arith))

    place_early : (k : ℕ) → Contains done k → get_or next (get_or classes k 0) 0 ≡ get_or places (get_or classes k 0) 0
    place_early k has = other (get_or classes k 0) (fresh k has)

    place_last : (k : ℕ) → table ≡ k → get_or next (get_or classes k 0) 0 ≡ most + 1
    place_last k e = subst (λ (m : ℕ). get_or next (get_or classes m 0) 0 ≡ most + 1) e here

    apart_new : (p q : ℕ) → 0 < get_or next p 0 → get_or next p 0 ≡ get_or next q 0 → p ≡ q
    apart_new p q some e = elim (cases_eq p class) [
      | inl at_p ↦ elim (cases_eq q class) [
        | inl at_q ↦ at_p ∙ sym at_q
        | inr ne_q ↦
            (let top : get_or next p 0 ≡ most + 1 = ap (λ (m : ℕ). get_or next m 0) at_p ∙ here in
            absurd (omega (top, e, other q ne_q, so_far.low q, arith)))
      ]
      | inr ne_p ↦ elim (cases_eq q class) [
        | inl at_q ↦
            (let top : get_or next q 0 ≡ most + 1 = ap (λ (m : ℕ). get_or next m 0) at_q ∙ here in
            absurd (omega (top, e, other p ne_p, so_far.low p, arith)))
        | inr ne_q ↦
            so_far.distinct p q (omega (some, other p ne_p, arith)) (sym (other p ne_p) ∙ (e ∙ other q ne_q))
      ]
    ]

    pub places_new : AreClassPlaces more classes count next (most + 1)
    places_new = record {
      long = length-set places class (most + 1) ∙ so_far.long;
      low = λ p. elim (cases_eq p class) [
        | inl e ↦
            (let top : get_or next p 0 ≡ most + 1 = ap (λ (m : ℕ). get_or next m 0) e ∙ here in omega (top, arith))
        | inr ne ↦ omega (other p ne, so_far.low p, arith)
      ];
      few = omega (so_far.few, longer, arith);
      distinct = apart_new;
      placed = λ k has. elim (Contains-push_cases done table k has) [
        | inl early ↦ omega (place_early k early, so_far.placed k early, arith)
        | inr e ↦ omega (place_last k e, arith)
      ];
      inhabited = λ p above. elim (cases_eq p class) [
        | inl e ↦ Any-push (λ k. get_or classes k 0 ≡ p) done table (sym e)
        | inr ne ↦
            any_left (λ k. get_or classes k 0 ≡ p) done (table ∷ []) (so_far.inhabited p (omega (above, other p ne, arith)))
      ];
      rising = λ n up same a b has_a has_b low. elim (Contains-push_cases done table a has_a) [
        | inl early_a ↦ elim (Contains-push_cases done table b has_b) [
          | inl early_b ↦
              so_far.rising n (front_rises n done table up)
              (λ u v in_u in_v. same u v (Contains-append_left done (table ∷ []) u in_u) (Contains-append_left done (table ∷ []) v in_v))
              a b early_a early_b (omega (low, place_early a early_a, place_early b early_b, arith))
          | inr e ↦ subst (λ (m : ℕ). n a ≤ n m) e (last_above n done table a up early_a)
        ]
        | inr e ↦ elim (Contains-push_cases done table b has_b) [
          | inl early_b ↦
              (let most_b : get_or places (get_or classes b 0) 0 ≤ most = so_far.low (get_or classes b 0) in
              absurd (omega (low, place_last a e, place_early b early_b, most_b, arith)))
          | inr f ↦ subst (λ (m : ℕ). n a ≤ n m) (sym e ∙ f) (omega arith)
        ]
      ];
    }

-- numbers by places
pub numbers_by : (order classes : List ℕ) (count : ℕ) (places : List ℕ) (most : ℕ) (numbers : List ℕ) → AreClassPlaces order classes count places most
    → AreOneLess classes places numbers → All (λ k. k < length classes) order → ((k : ℕ) → k < length classes → Contains order k) → AreRenumbered order classes most numbers
numbers_by order classes count places most numbers are less within all =
    let one : (k : ℕ) → k < length classes → get_or numbers k 0 + 1 ≡ get_or places (get_or classes k 0) 0 = less.each in
    let near : (k : ℕ) → Contains order k → k < length classes =
    λ k has. let (i, inside, is) = has in subst (λ (m : ℕ). m < length classes) is (within i k inside) in
    record {
      one_each = less.one_each;
      below = λ k d inside.
          let size : length numbers ≡ length classes = less.one_each in
          let same : get_or numbers k d ≡ get_or numbers k 0 = get_or-default numbers k d 0 inside in
          let up : get_or places (get_or classes k 0) 0 ≤ most = are.low (get_or classes k 0) in
          omega (same, up, one k (omega (inside, size, arith)), arith);
      same = λ a b low_a low_b. (
        λ e. are.distinct (get_or classes a 0) (get_or classes b 0) (are.placed a (all a low_a))
            (sym (one a low_a) ∙ (ap (λ (m : ℕ). m + 1) e ∙ one b low_b)),
        λ e. (
            let same : get_or places (get_or classes a 0) 0 ≡ get_or places (get_or classes b 0) 0 = ap (λ (m : ℕ). get_or places m 0) e in
            omega (one a low_a, one b low_b, same, arith)),
      );
      rising = λ n up same a b has_a has_b low.
          are.rising n up same a b has_a has_b
          (let one_a = one a (near a has_a) in let one_b = one b (near b has_b) in omega (low, one_a, one_b, arith));
    }
