-- The numbers of tables, found one by one.
use Rattle.std.proofs.Common.{◌≡◌, ◌≢◌, ◌∙◌, ℕ, ◌+◌, ◌<◌, ◌≤◌, List, [], ◌∷◌, ◌++◌, length, get_or}
use Rattle.std.proofs.Common.{sym, ap, subst, arith, inl, inr, length-append}
use Rattle.std.specs.Prelude.{Contains}
use Rattle.std.proofs.Math.ListN.{set}
use Rattle.std.proofs.lemmas.Bool.{cases_eq}
use Rattle.std.proofs.lemmas.List.{get_or-set_other, get_or-set_same, get_or_append_left, get_or_push}
use Rattle.std.proofs.lemmas.List.{length-set}
use Rattle.std.proofs.lemmas.List.Elements.{All-set, Contains-append_left, Contains-get_or}
use Rattle.std.proofs.lemmas.List.Elements.{Contains-push, Contains-push_cases}
use Rattle.std.proofs.lemmas.List.Quantifiers.{Any-push, all_pairs_push}
use Rattle.std.specs.List.Sorted.{IsNonDecreasing, IsPermutation}
use Rattle.std.proofs.Math.Dec.{eqb}
use Rattle.std.proofs.lemmas.Bool.Decides.{Decides-eqb, eqb_tells}
use Rattle.std.proofs.lemmas.List.Sorted.{Contains-permutation, IsPermutation-sym}
use Rattle.std.proofs.lemmas.Map.Keys.{IsDistinct-IsPermutation}
use Rattle.std.proofs.lemmas.Map.Made.{AllPairs-from_IsDistinct, IsDistinct-from_AllPairs}
use Rattle.ds_settle.specs.Cone.{Parts as Cone}
use Rattle.ds_opening.specs.Lists.{AreFound, AreFoundSoFar, AreLists, IsListOf}
use Rattle.ds_opening.proofs.ListPrefix.{any_cases, any_left}

module _ (tables numbers before : List ℕ) (stamp : ℕ) (seen list : List ℕ)
    (so_far : AreFoundSoFar tables numbers before stamp seen list) (table : ℕ)
    (inside : get_or numbers table 0 < length seen) where
  abbrev number : ℕ
  number = get_or numbers table 0

  -- a table whose number is found
  pub found_old : get_or seen number 0 ≡ stamp
      → AreFoundSoFar (tables ++ table ∷ []) numbers before stamp seen list
  found_old is = record {
    found = record {
      once = so_far.found.once;
      has = λ g. (
        λ has. any_left (λ k. get_or numbers k 0 ≡ g) tables (table ∷ []) ((so_far.found.has g).0 has),
        λ some. elim (any_cases (λ k. get_or numbers k 0 ≡ g) tables table some) [
          | inl early ↦ (so_far.found.has g).1 early
          | inr e ↦ subst (Contains list) e ((so_far.stamped number inside).0 is)
        ],
      );
    };
    long = so_far.long;
    low = so_far.low;
    stamped = so_far.stamped;
  }

  -- a table with a new number
  pub found_new : get_or seen number 0 ≢ stamp
      → AreFoundSoFar (tables ++ table ∷ []) numbers before stamp (set seen number stamp)
      (list ++ number ∷ [])
  found_new new =
      let fresh : ¬ Contains list number = λ has. new ((so_far.stamped number inside).1 has) in
      record {
        found = record {
          once = all_pairs_push (λ a b. a ≢ b) list number so_far.found.once
              (λ k d low e. fresh (subst (Contains list) e (Contains-get_or list k d low)));
          has = λ g. (
            λ has. elim (Contains-push_cases list number g has) [
              | inl early ↦
                  any_left (λ k. get_or numbers k 0 ≡ g) tables (table ∷ []) ((so_far.found.has g).0 early)
              | inr e ↦ Any-push (λ k. get_or numbers k 0 ≡ g) tables table e
            ],
            λ some. elim (any_cases (λ k. get_or numbers k 0 ≡ g) tables table some) [
              | inl early ↦ Contains-append_left list (number ∷ []) g ((so_far.found.has g).1 early)
              | inr e ↦ subst (Contains (list ++ number ∷ [])) e (Contains-push list number)
            ],
          );
        };
        long = length-set seen number stamp ∙ so_far.long;
        low = All-set (λ s. s ≤ stamp) seen number stamp (omega arith) so_far.low;
        stamped = λ g low. elim (cases_eq g number) [
          | inl e ↦ (
            λ is. subst (Contains (list ++ number ∷ [])) (sym e) (Contains-push list number),
            λ has. ap (λ (n : ℕ). get_or (set seen number stamp) n 0) e
                ∙ get_or-set_same seen number stamp 0 inside,
          )
          | inr ne ↦
              (let other : get_or (set seen number stamp) g 0 ≡ get_or seen g 0 =
              get_or-set_other seen number g stamp 0 ne in
              let size : length (set seen number stamp) ≡ length seen = length-set seen number stamp in
              let there : g < length seen = omega (low, size, arith) in (
                λ is. Contains-append_left list (number ∷ []) g
                    ((so_far.stamped g there).0 (sym other ∙ is)),
                λ has. elim (Contains-push_cases list number g has) [
                  | inl early ↦ other ∙ (so_far.stamped g there).1 early
                  | inr e ↦ absurd (ne (sym e))
                ],
              ))
        ];
      }

-- one cone more
pub lists_more : (cones : List Cone) (numbers : List ℕ) (lists : List (List ℕ)) (cone : Cone)
    (list : List ℕ) → AreLists cones numbers lists → IsListOf cone.tables numbers list
    → AreLists (cones ++ cone ∷ []) numbers (lists ++ list ∷ [])
lists_more cones numbers lists cone list are found = record {
  one_each =
      length-append lists (list ∷ []) ∙ (ap (λ (n : ℕ). n + 1) are.one_each ∙ sym (length-append cones (cone ∷ [])));
  each = λ i d inside. elim (cases_eq i (length cones)) [
    | inl e ↦
        (let size : length lists ≡ length cones = are.one_each in
        let here : get_or (cones ++ cone ∷ []) i d ≡ cone = get_or_push cones cone d i (sym e) in
        let there : get_or (lists ++ list ∷ []) i [] ≡ list = get_or_push lists list [] i (size ∙ sym e) in
        subst (λ (c : Cone). IsListOf c.tables numbers (get_or (lists ++ list ∷ []) i [])) (sym here)
        (subst (IsListOf cone.tables numbers) (sym there) found))
    | inr ne ↦
        (let size : length lists ≡ length cones = are.one_each in
        let low : i < length cones = omega (inside, ne, length-append cones (cone ∷ []), arith) in
        let here : get_or (cones ++ cone ∷ []) i d ≡ get_or cones i d =
        get_or_append_left cones (cone ∷ []) d i low in
        let there : get_or (lists ++ list ∷ []) i [] ≡ get_or lists i [] =
        get_or_append_left lists (list ∷ []) [] i (omega (low, size, arith)) in
        subst (λ (c : Cone). IsListOf c.tables numbers (get_or (lists ++ list ∷ []) i [])) (sym here)
        (subst (IsListOf (get_or cones i d).tables numbers) (sym there) (are.each i d low)))
  ];
}

flips : (x y : ℕ) → eqb x y ≡ eqb y x
flips x y = elim (eqb_tells x y) [
  | inl (is, e) ↦ elim (eqb_tells y x) [ inl (at, f) ↦ is ∙ sym at | inr (at, ne) ↦ absurd (ne (sym e)) ]
  | inr (is, ne) ↦ elim (eqb_tells y x) [ inl (at, f) ↦ absurd (ne (sym f)) | inr (at, other) ↦ is ∙ sym at ]
]

-- the same, sorted
pub found_sorted : (tables numbers list sorted : List ℕ) → AreFound tables numbers list → IsPermutation list sorted
    → IsNonDecreasing sorted → IsListOf tables numbers sorted
found_sorted tables numbers list sorted found permuted rising = record {
  found = record {
    once = AllPairs-from_IsDistinct Decides-eqb sorted (IsDistinct-IsPermutation eqb flips list sorted permuted
        (IsDistinct-from_AllPairs Decides-eqb list found.once));
    has = λ g. (
      λ has. (found.has g).0 (Contains-permutation sorted list g (IsPermutation-sym list sorted permuted) has),
      λ some. Contains-permutation list sorted g permuted ((found.has g).1 some),
    );
  };
  rising = rising;
}
