-- Tables are gathered by their numbers, one after another.
use Rattle.std.proofs.Common.{◌≡◌, ◌≢◌, ◌∙◌, ℕ, ◌<◌, List, [], ◌∷◌, ◌++◌, get_or, if◌then◌else◌}
use Rattle.std.proofs.Common.{replicate, sym, ap, subst, arith, inl, inr}
use Rattle.std.specs.Prelude.{◌==◌, Bool}
use Rattle.std.proofs.Math.ListN.{set}
use Rattle.std.proofs.lemmas.Bool.{cases_eq, eq-eqb, ne_eqb}
use Rattle.std.proofs.lemmas.List.{append-nil, get_or-replicate, get_or-set_other, get_or-set_same}
use Rattle.std.proofs.lemmas.List.{length-replicate, length-set}
use Rattle.std.proofs.lemmas.List.Elements.{filter-append}
use Rattle.ds_opening.specs.Members.{AreMembers, tables_numbered}

-- before the first table
pub gathered_none : (numbers : List ℕ) (count : ℕ) → AreMembers [] numbers count (replicate count [])
gathered_none numbers count = record {
  one_each = length-replicate {A = List ℕ} count [];
  each = λ g inside. get_or-replicate {A = List ℕ} count g [] [] inside;
}

module _ (order numbers : List ℕ) (table g : ℕ) where
  abbrev kept : Bool → List ℕ
  kept is = tables_numbered order numbers g ++ (if is then table ∷ [] else [])

  -- one table more
  numbered_more : tables_numbered (order ++ table ∷ []) numbers g ≡ kept (get_or numbers table 0 == g)
  numbered_more = filter-append (λ k. get_or numbers k 0 == g) order (table ∷ [])

  numbered_here : get_or numbers table 0 ≡ g
      → tables_numbered (order ++ table ∷ []) numbers g ≡ tables_numbered order numbers g ++ table ∷ []
  numbered_here e = numbered_more ∙ ap kept (eq-eqb (get_or numbers table 0) g e)

  numbered_elsewhere : get_or numbers table 0 ≢ g
      → tables_numbered (order ++ table ∷ []) numbers g ≡ tables_numbered order numbers g
  numbered_elsewhere ne = numbered_more
      ∙ (ap kept (ne_eqb (get_or numbers table 0) g ne) ∙ append-nil (tables_numbered order numbers g))

-- behind one table more
pub gathered_more : (order numbers : List ℕ) (count : ℕ) (lists : List (List ℕ)) (table number : ℕ) (list : List ℕ)
    → AreMembers order numbers count lists → number < count → get_or numbers table 0 ≡ number
    → list ≡ get_or lists number [] ++ table ∷ []
    → AreMembers (order ++ table ∷ []) numbers count (set lists number list)
gathered_more order numbers count lists table number list are low at is = record {
  one_each = length-set lists number list ∙ are.one_each;
  each = λ g inside. elim (cases_eq g number) [
    | inl e ↦
        subst (λ (n : ℕ). get_or (set lists number list) n [] ≡ tables_numbered (order ++ table ∷ []) numbers n) (sym e)
        (get_or-set_same lists number list [] (omega (low, are.one_each, arith))
        ∙ (is ∙ (ap (λ (xs : List ℕ). xs ++ table ∷ []) (are.each number low)
        ∙ sym (numbered_here order numbers table number at))))
    | inr ne ↦
        get_or-set_other lists number g list [] ne
        ∙ (are.each g inside ∙ sym (numbered_elsewhere order numbers table g (λ e. ne (sym e ∙ at))))
  ];
}
