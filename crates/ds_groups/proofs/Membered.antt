-- The registers of each line, one register after another.
use Rattle.std.proofs.Common.{◌≡◌, ◌≢◌, ◌∙◌, inl, inr, ℕ, zero, suc, ◌+◌, ◌<◌, ◌==◌, cond, List, [], ◌∷◌, ◌++◌, length, get_or, set, map, replicate, refl, sym, ap, arith, add-one, get_or-set_same, get_or-set_other, Result, Ok, Err}
use Rattle.std.specs.List.{filter, range_with_len}
use Rattle.std.proofs.lemmas.Bool.{cases_eq, cases_lt, eq-eqb, ne_eqb, cond-true, cond-false}
use Rattle.std.proofs.lemmas.List.{get_or_past, length-set}
use Rattle.std.proofs.lemmas.List.Elements.{filter-append}
use Rattle.std.proofs.lemmas.List.FromFn.{get_or-map-range_with_len, length-map-range_with_len}
use Rattle.ds_base.proofs.ListLemmas.{lists_same}
use Rattle.ds_lines.specs.Line.{Line}
use Rattle.ds_lines.specs.declared.at.At.{At}
use Rattle.ds_groups.specs.Members.{members_by, members_of}
use Rattle.ds_groups.specs.Read.{after_lines, behind_word, groups_by, groups_of, holder}
use Rattle.ds_groups.specs.declared.fault.GroupKind.{GroupKind}

no_members : (holders : List ℕ) (a n : ℕ) → replicate n [] ≡ map (members_of holders 0) (range_with_len a n)
no_members holders a zero = refl
no_members holders a (suc n) = ap (λ (xs : List (List ℕ)). [] ∷ xs) (no_members holders (a + 1) n)

pub members_none : (holders : List ℕ) (count : ℕ) → replicate count [] ≡ map (members_of holders 0) (range_with_len 1 count)
members_none holders count = no_members holders 1 count

range_suc : (a n : ℕ) → range_with_len a (suc n) ≡ range_with_len a n ++ (a + n) ∷ []
range_suc a zero = ap (λ (k : ℕ). k ∷ []) (let e : a ≡ a + 0 = omega arith in e)
range_suc a (suc n) = ap (λ (xs : List ℕ). a ∷ xs) (range_suc (a + 1) n)
    ∙ ap (λ (k : ℕ). a ∷ (range_with_len (a + 1) n ++ k ∷ [])) (let e : a + 1 + n ≡ a + suc n = omega arith in e)

members_more : (holders : List ℕ) (i place : ℕ) → members_of holders (i + 1) place ≡ members_of holders i place ++ cond (holder holders i == place) (i ∷ []) []
members_more holders i place =
    ap (λ (n : ℕ). filter (λ r. holder holders r == place) (range_with_len 0 n)) (add-one i)
    ∙ ap (λ (xs : List ℕ). filter (λ r. holder holders r == place) xs) (range_suc 0 i ∙ ap (λ (k : ℕ). range_with_len 0 i ++ k ∷ []) (let e : 0 + i ≡ i = omega arith in e))
    ∙ filter-append (λ r. holder holders r == place) (range_with_len 0 i) (i ∷ [])

append_none : (xs : List ℕ) → xs ++ [] ≡ xs
append_none [] = refl
append_none (x ∷ xs) = ap (λ (ys : List ℕ). x ∷ ys) (append_none xs)

members_other : (holders : List ℕ) (i place : ℕ) → holder holders i ≢ place → members_of holders (i + 1) place ≡ members_of holders i place
members_other holders i place other = members_more holders i place
    ∙ ap (λ (xs : List ℕ). members_of holders i place ++ xs) (cond-false (holder holders i == place) (i ∷ []) [] (ne_eqb (holder holders i) place other))
    ∙ append_none (members_of holders i place)

members_here : (holders : List ℕ) (i place : ℕ) → holder holders i ≡ place → members_of holders (i + 1) place ≡ members_of holders i place ++ i ∷ []
members_here holders i place here = members_more holders i place
    ∙ ap (λ (xs : List ℕ). members_of holders i place ++ xs) (cond-true (holder holders i == place) (i ∷ []) [] (eq-eqb (holder holders i) place here))

module _ (holders : List ℕ) (count i : ℕ) (groups : List (List ℕ)) (are : groups ≡ map (members_of holders i) (range_with_len 1 count)) where
  at_place : (n j : ℕ) → j < count → get_or (map (members_of holders n) (range_with_len 1 count)) j [] ≡ members_of holders n (1 + j)
  at_place n j low = get_or-map-range_with_len (members_of holders n) 1 count j (1 + j) [] low refl

  size : (n : ℕ) → length (map (members_of holders n) (range_with_len 1 count)) ≡ count
  size n = length-map-range_with_len (members_of holders n) 1 count

  pub register_free : holder holders i ≡ 0 → groups ≡ map (members_of holders (i + 1)) (range_with_len 1 count)
  register_free free = are ∙ lists_same (map (members_of holders i) (range_with_len 1 count)) (map (members_of holders (i + 1)) (range_with_len 1 count)) [] (size i ∙ sym (size (i + 1)))
      (λ j. elim (cases_lt j count) [
        | inl low ↦ at_place i j low ∙ sym (members_other holders i (1 + j) (λ e. absurd (omega arith))) ∙ sym (at_place (i + 1) j low)
        | inr high ↦ get_or_past (map (members_of holders i) (range_with_len 1 count)) j [] (let n = size i in omega (arith, n))
            ∙ sym (get_or_past (map (members_of holders (i + 1)) (range_with_len 1 count)) j [] (let n = size (i + 1) in omega (arith, n)))
      ])

  pub register_held : (place : ℕ) (new : List ℕ) → place < count → holder holders i ≡ place + 1 → new ≡ get_or groups place [] ++ i ∷ []
      → set groups place new ≡ map (members_of holders (i + 1)) (range_with_len 1 count)
  register_held place new low held is =
      let n : length groups ≡ count = ap length are ∙ size i in
      lists_same (set groups place new) (map (members_of holders (i + 1)) (range_with_len 1 count)) [] (length-set groups place new ∙ n ∙ sym (size (i + 1)))
      (λ j. elim (cases_lt j count) [
        | inl inside ↦ elim (cases_eq j place) [
          | inl here ↦ ap (λ (k : ℕ). get_or (set groups place new) k []) here
              ∙ get_or-set_same groups place new [] (omega arith) ∙ is
              ∙ ap (λ (k : ℕ). get_or groups k [] ++ i ∷ []) (sym here)
              ∙ ap (λ (gs : List (List ℕ)). get_or gs j [] ++ i ∷ []) are
              ∙ ap (λ (xs : List ℕ). xs ++ i ∷ []) (at_place i j inside)
              ∙ sym (members_here holders i (1 + j) (omega arith)) ∙ sym (at_place (i + 1) j inside)
          | inr other ↦ get_or-set_other groups place j new [] other
              ∙ ap (λ (gs : List (List ℕ)). get_or gs j []) are ∙ at_place i j inside
              ∙ sym (members_other holders i (1 + j) (λ e. other (omega arith))) ∙ sym (at_place (i + 1) j inside)
        ]
        | inr high ↦ (
            let m : length (set groups place new) ≡ length groups = length-set groups place new in
            get_or_past (set groups place new) j [] (omega arith)
            ∙ sym (get_or_past (map (members_of holders (i + 1)) (range_with_len 1 count)) j [] (let k = size (i + 1) in omega (arith, k))))
      ])

-- the groups of lines that are taken
pub groups_are : (names : List (List ℕ)) (lines : List Line) (n : ℕ) (old holders : List ℕ) → length names ≡ n → old ≡ replicate n 0 → length holders ≡ n
    → after_lines names 1 old lines ≡ Ok holders → groups_of names lines ≡ Ok (members_by holders (length lines))
groups_are names lines n old holders size is held e =
    ap (λ (h : List ℕ). behind_word (after_lines names 1 h lines) (λ hs. Ok (groups_by names (length lines) hs)))
    (ap (λ (k : ℕ). replicate k 0) size ∙ sym is)
    ∙ ap (λ (r : Result (List ℕ) (At GroupKind)). behind_word r (λ hs. Ok (groups_by names (length lines) hs))) e
    ∙ ap (λ (k : ℕ). Ok (map (λ place. filter (λ r. holder holders r == place) (range_with_len 0 k)) (range_with_len 1 (length lines)))) (size ∙ sym held)

pub groups_refused : (names : List (List ℕ)) (lines : List Line) (n : ℕ) (old : List ℕ) (fault : At GroupKind) → length names ≡ n → old ≡ replicate n 0
    → after_lines names 1 old lines ≡ Err fault → groups_of names lines ≡ Err fault
groups_refused names lines n old fault size is e =
    ap (λ (h : List ℕ). behind_word (after_lines names 1 h lines) (λ hs. Ok (groups_by names (length lines) hs)))
    (ap (λ (k : ℕ). replicate k 0) size ∙ sym is)
    ∙ ap (λ (r : Result (List ℕ) (At GroupKind)). behind_word r (λ hs. Ok (groups_by names (length lines) hs))) e
