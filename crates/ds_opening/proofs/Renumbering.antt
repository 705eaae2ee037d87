-- Classes get numbers without gaps, one after another.
use Rattle.std.proofs.Common.{◌≡◌, ◌≢◌, ◌∙◌, ℕ, ◌+◌, ◌-◌, ◌<◌, List, [], ◌∷◌, ◌++◌, length, get_or}
use Rattle.std.proofs.Common.{replicate, refl, sym, ap, subst, arith, inl, inr, length-append}
use Rattle.std.proofs.Math.ListN.{set}
use Rattle.std.proofs.lemmas.Bool.{cases_eq, cases_lt}
use Rattle.std.proofs.lemmas.List.{get_or-replicate, get_or-set_other, get_or-set_same}
use Rattle.std.proofs.lemmas.List.{get_or_append_left, get_or_past, get_or_push}
use Rattle.std.proofs.lemmas.List.{length-replicate, length-set}
use Rattle.ds_base.proofs.ListLemmas.{get_or-default}
use Rattle.ds_opening.specs.Gaps.{AreAnew, AreAnewSoFar}

zero_there : (count p : ℕ) → get_or (replicate {A = ℕ} count 0) p 0 ≡ 0
zero_there count p = elim (cases_lt p count) [
  | inl inside ↦ get_or-replicate count p 0 0 inside
  | inr past ↦
      get_or_past (replicate {A = ℕ} count 0) p 0 (omega (past, length-replicate {A = ℕ} count 0, arith))
]

-- before the first table
pub anew_none : (old : List ℕ) (count : ℕ) → AreAnewSoFar old count 0 (replicate count 0) 0 []
anew_none old count = record {
  one_each = refl;
  long = length-replicate {A = ℕ} count 0;
  low = λ p. omega (zero_there count p, arith);
  few = omega arith;
  distinct = λ p q some same. absurd (omega (some, zero_there count p, arith));
  is = λ k inside. absurd (omega (inside, arith));
}

module _ (old : List ℕ) (count n : ℕ) (places : List ℕ) (next : ℕ) (new : List ℕ)
    (are : AreAnewSoFar old count n places next new) (class a : ℕ) (at : get_or old n 0 ≡ class) where
  abbrev more : List ℕ
  more = new ++ a ∷ []

  longer : length more ≡ n + 1
  longer = length-append new (a ∷ []) ∙ ap (λ (m : ℕ). m + 1) are.one_each

  early : (k : ℕ) → k < n → get_or more k 0 ≡ get_or new k 0
  early k low = get_or_append_left new (a ∷ []) 0 k (omega (low, are.one_each, arith))

  last : get_or more n 0 ≡ a
  last = get_or_push new a 0 n are.one_each

  -- a table whose class has come
  pub anew_old : a + 1 ≡ get_or places class 0 → AreAnewSoFar old count (n + 1) places next more
  anew_old known = record {
    one_each = longer;
    long = are.long;
    low = are.low;
    few = omega (are.few, arith);
    distinct = are.distinct;
    is = λ k low. elim (cases_eq k n) [
      | inl e ↦ subst (λ (m : ℕ). get_or more m 0 + 1 ≡ get_or places (get_or old m 0) 0) (sym e)
          (ap (λ (m : ℕ). m + 1) last ∙ (known ∙ ap (λ (m : ℕ). get_or places m 0) (sym at)))
      | inr ne ↦
          (let before : k < n = omega (low, ne, arith) in
          ap (λ (m : ℕ). m + 1) (early k before) ∙ are.is k before)
    ];
  }

  -- a table whose class has not come
  module _ (none : get_or places class 0 ≡ 0) (inside : class < count) where
    abbrev there : List ℕ
    there = set places class (next + 1)

    here : get_or there class 0 ≡ next + 1
    here = get_or-set_same places class (next + 1) 0 (omega (inside, are.long, arith))

    other : (p : ℕ) → p ≢ class → get_or there p 0 ≡ get_or places p 0
    other p ne = get_or-set_other places class p (next + 1) 0 ne

    top : (p : ℕ) → p ≡ class → get_or there p 0 ≡ next + 1
    top p e = ap (λ (m : ℕ). get_or there m 0) e ∙ here

    apart_new : (p q : ℕ) → 0 < get_or there p 0 → get_or there p 0 ≡ get_or there q 0 → p ≡ q
    apart_new p q some e = elim (cases_eq p class) [
      | inl at_p ↦ elim (cases_eq q class) [
        | inl at_q ↦ at_p ∙ sym at_q
        | inr ne_q ↦ absurd (omega (top p at_p, e, other q ne_q, are.low q, arith))
      ]
      | inr ne_p ↦ elim (cases_eq q class) [
        | inl at_q ↦ absurd (omega (top q at_q, e, other p ne_p, are.low p, arith))
        | inr ne_q ↦
            are.distinct p q (omega (some, other p ne_p, arith)) (sym (other p ne_p) ∙ (e ∙ other q ne_q))
      ]
    ]

    fresh : (k : ℕ) → k < n → get_or old k 0 ≢ class
    fresh k before e =
        let zero_here : get_or places (get_or old k 0) 0 ≡ 0 = ap (λ (m : ℕ). get_or places m 0) e ∙ none in
        absurd (omega (are.is k before, zero_here, arith))

    pub anew_new : a ≡ next → AreAnewSoFar old count (n + 1) there (next + 1) more
    anew_new first = record {
      one_each = longer;
      long = length-set places class (next + 1) ∙ are.long;
      low = λ p. elim (cases_eq p class) [
        | inl e ↦ omega (top p e, arith)
        | inr ne ↦ omega (other p ne, are.low p, arith)
      ];
      few = omega (are.few, arith);
      distinct = apart_new;
      is = λ k low. elim (cases_eq k n) [
        | inl e ↦ subst (λ (m : ℕ). get_or more m 0 + 1 ≡ get_or there (get_or old m 0) 0) (sym e)
            (ap (λ (m : ℕ). m + 1) (last ∙ first) ∙ sym (top (get_or old n 0) at))
        | inr ne ↦
            (let before : k < n = omega (low, ne, arith) in
            ap (λ (m : ℕ). m + 1) (early k before)
            ∙ (are.is k before ∙ sym (other (get_or old k 0) (fresh k before))))
      ];
    }

module _ (old : List ℕ) (count n : ℕ) (places : List ℕ) (next : ℕ) (new : List ℕ)
    (are : AreAnewSoFar old count n places next new) (inside : get_or old n 0 < count) (read : ℕ)
    (is : read ≡ get_or places (get_or old n 0) read) where
  read_is : read ≡ get_or places (get_or old n 0) 0
  read_is = is ∙ get_or-default places (get_or old n 0) read 0 (omega (inside, are.long, arith))

  module _ (now : List ℕ) (most last : ℕ) (more : List ℕ) (last_is : last ≡ get_or now (get_or old n 0) last)
      (pushed : more ≡ new ++ (last - 1) ∷ []) where
    -- a table whose class has come, by what is read
    pub step_old : read ≢ 0 → now ≡ places → most ≡ next → AreAnewSoFar old count (n + 1) now most more
    step_old some same most_is =
        let class : ℕ = get_or old n 0 in
        let at : last ≡ get_or places class 0 =
        last_is ∙ (ap (λ (ps : List ℕ). get_or ps class last) same
        ∙ get_or-default places class last 0 (omega (inside, are.long, arith))) in
        let known : last - 1 + 1 ≡ get_or places class 0 = omega (at, read_is, some, arith) in
        subst (λ (ps : List ℕ). AreAnewSoFar old count (n + 1) ps most more) (sym same)
        (subst (λ (m : ℕ). AreAnewSoFar old count (n + 1) places m more) (sym most_is)
        (subst (λ (xs : List ℕ). AreAnewSoFar old count (n + 1) places next xs) (sym pushed)
        (anew_old old count n places next new are class (last - 1) refl known)))

    -- a table whose class has not come, by what is read
    pub step_new : read ≡ 0 → now ≡ set places (get_or old n 0) (next + 1) → most ≡ next + 1
        → AreAnewSoFar old count (n + 1) now most more
    step_new none same most_is =
        let class : ℕ = get_or old n 0 in
        let at : last ≡ next + 1 =
        last_is ∙ (ap (λ (ps : List ℕ). get_or ps class last) same
        ∙ get_or-set_same places class (next + 1) last (omega (inside, are.long, arith))) in
        let first : last - 1 ≡ next = omega (at, arith) in
        subst (λ (ps : List ℕ). AreAnewSoFar old count (n + 1) ps most more) (sym same)
        (subst (λ (m : ℕ). AreAnewSoFar old count (n + 1) (set places class (next + 1)) m more) (sym most_is)
        (subst (λ (xs : List ℕ). AreAnewSoFar old count (n + 1) (set places class (next + 1)) (next + 1) xs) (sym pushed)
        (anew_new old count n places next new are class (last - 1) refl (sym read_is ∙ none) inside first)))

-- behind the last table
pub are_anew : (old : List ℕ) (count n : ℕ) (places : List ℕ) (next : ℕ) (new : List ℕ)
    → AreAnewSoFar old count n places next new → length old ≡ n → AreAnew old next new
are_anew old count n places next new are all = record {
  one_each = are.one_each ∙ sym all;
  below = λ k d inside.
      omega (get_or-default new k d 0 inside, are.is k (omega (inside, are.one_each, arith)), are.low (get_or old k 0), arith);
  same = λ a b low_a low_b.
      let is_a : get_or new a 0 + 1 ≡ get_or places (get_or old a 0) 0 = are.is a (omega (low_a, all, arith)) in
      let is_b : get_or new b 0 + 1 ≡ get_or places (get_or old b 0) 0 = are.is b (omega (low_b, all, arith)) in (
        λ e. are.distinct (get_or old a 0) (get_or old b 0) (omega (is_a, arith))
            (sym is_a ∙ (ap (λ (m : ℕ). m + 1) e ∙ is_b)),
        λ e. (
            let one : get_or places (get_or old a 0) 0 ≡ get_or places (get_or old b 0) 0 = ap (λ (m : ℕ). get_or places m 0) e in
            omega (is_a, is_b, one, arith)),
      );
}
