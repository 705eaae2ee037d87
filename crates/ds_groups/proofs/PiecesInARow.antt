-- A text matches a pattern where the pattern's pieces stand in it in a row.
use Rattle.std.proofs.Common.{◌≡◌, ◌∙◌, inl, inr, ℕ, true, false, ◌==◌, List, [], ◌∷◌, ◌++◌, length, take, drop, refl, sym, ap, subst}
use Rattle.std.specs.List.{onto_first}
use Rattle.std.proofs.lemmas.Bool.{cases_Bool, false≢true, and_parts, eqb-true}
use Rattle.std.proofs.lemmas.List.{take-append-drop}
use Rattle.std.proofs.lemmas.List.Splits.{slice_split-cons_yes, slice_split-cons_no}
use Rattle.std.proofs.Math.Seq.{drop-append_seam}
use Rattle.ds_groups.specs.Match.{is_empty, is_star, has_form}
use Rattle.ds_groups.specs.Pieces.{AreInARow, pieces_of}
use Rattle.ds_groups.specs.Laws.{MatchesByPieces}
use Rattle.ds_groups.proofs.Matching.{plain_head, plain_same, star_from, star_to}

first_piece : (pattern : List ℕ) → (q : List ℕ) × (qs : List (List ℕ)) × (pieces_of pattern ≡ q ∷ qs)
first_piece [] = ([], [], refl)
first_piece (byte ∷ pattern) = elim (cases_Bool (is_star byte)) [
  | inl star ↦ ([], pieces_of pattern, slice_split-cons_yes is_star byte pattern star)
  | inr plain ↦ (let (q, qs, e) = first_piece pattern in
      (byte ∷ q, qs, slice_split-cons_no is_star byte pattern plain ∙ ap (λ (ps : List (List ℕ)). onto_first byte ps) e))
]

row_cons : (byte : ℕ) (q : List ℕ) (qs : List (List ℕ)) (text : List ℕ) → AreInARow (q ∷ qs) text → AreInARow ((byte ∷ q) ∷ qs) (byte ∷ text)
row_cons byte q [] text is = ap (λ (t : List ℕ). byte ∷ t) is
row_cons byte q (p ∷ ps) text (between, rest, e, r) = (between, rest, ap (λ (t : List ℕ). byte ∷ t) e, r)

row_uncons : (byte : ℕ) (q : List ℕ) (qs : List (List ℕ)) (text : List ℕ) → AreInARow ((byte ∷ q) ∷ qs) text
    → (t : List ℕ) × (text ≡ byte ∷ t) × AreInARow (q ∷ qs) t
row_uncons byte q [] text is = (q, is, refl)
row_uncons byte q (p ∷ ps) text (between, rest, e, r) = (q ++ between ++ rest, e, (between, rest, refl, r))

pub row_there : (pattern text : List ℕ) → has_form pattern text ≡ true → AreInARow (pieces_of pattern) text
row_there [] [] is = refl
row_there [] (b ∷ text) is = absurd (false≢true is)
row_there (byte ∷ pattern) text is =
    let (q, qs, e) = first_piece pattern in
    elim (cases_Bool (is_star byte)) [
      | inl star ↦ (
          let byte_is : byte ≡ 42 = eqb-true byte 42 star in
          let (j, there) = star_to pattern text (ap (λ (b : ℕ). has_form (b ∷ pattern) text) (sym byte_is) ∙ is) in
          let r : AreInARow (q ∷ qs) (drop j text) = subst (λ (ps : List (List ℕ)). AreInARow ps (drop j text)) e (row_there pattern (drop j text) there) in
          subst (λ (ps : List (List ℕ)). AreInARow ps text) (sym (slice_split-cons_yes is_star byte pattern star ∙ ap (λ (ps : List (List ℕ)). [] ∷ ps) e))
          (take j text, drop j text, sym (take-append-drop j text), r))
      | inr plain ↦ subst (λ (ps : List (List ℕ)). AreInARow ps text)
          (sym (slice_split-cons_no is_star byte pattern plain ∙ ap (λ (ps : List (List ℕ)). onto_first byte ps) e))
          (go byte q qs pattern text plain is (λ t m. subst (λ (ps : List (List ℕ)). AreInARow ps t) e (row_there pattern t m)))
    ]
  where
    go : (byte : ℕ) (q : List ℕ) (qs : List (List ℕ)) (pattern text : List ℕ) → is_star byte ≡ false → has_form (byte ∷ pattern) text ≡ true
        → ((t : List ℕ) → has_form pattern t ≡ true → AreInARow (q ∷ qs) t) → AreInARow ((byte ∷ q) ∷ qs) text
    go byte q qs pattern [] plain is step = absurd (false≢true (none ∙ is))
      where
        none : false ≡ has_form (byte ∷ pattern) []
        none = rw plain refl
    go byte q qs pattern (b ∷ text) plain is step =
        let (same, there) = and_parts (byte == b) (has_form pattern text) (sym (plain_head byte b pattern text plain) ∙ is) in
        subst (λ (x : ℕ). AreInARow ((byte ∷ q) ∷ qs) (x ∷ text)) (eqb-true byte b same) (row_cons byte q qs text (step text there))

pub row_back : (pattern text : List ℕ) → AreInARow (pieces_of pattern) text → has_form pattern text ≡ true
row_back [] text is = ap (λ (t : List ℕ). is_empty t) is
row_back (byte ∷ pattern) text is =
    let (q, qs, e) = first_piece pattern in
    elim (cases_Bool (is_star byte)) [
      | inl star ↦ (
          let byte_is : byte ≡ 42 = eqb-true byte 42 star in
          let (between, rest, at, r) = subst (λ (ps : List (List ℕ)). AreInARow ps text) (slice_split-cons_yes is_star byte pattern star ∙ ap (λ (ps : List (List ℕ)). [] ∷ ps) e) is in
          let there : has_form pattern rest ≡ true = row_back pattern rest (subst (λ (ps : List (List ℕ)). AreInARow ps rest) (sym e) r) in
          ap (λ (b : ℕ). has_form (b ∷ pattern) text) byte_is
          ∙ star_from pattern text (length between)
          (ap (λ (t : List ℕ). has_form pattern (drop (length between) t)) at ∙ (ap (λ (t : List ℕ). has_form pattern t) (drop-append_seam between rest) ∙ there)))
      | inr plain ↦ (
          let (t, text_is, r) = row_uncons byte q qs text (subst (λ (ps : List (List ℕ)). AreInARow ps text) (slice_split-cons_no is_star byte pattern plain ∙ ap (λ (ps : List (List ℕ)). onto_first byte ps) e) is) in
          ap (λ (x : List ℕ). has_form (byte ∷ pattern) x) text_is ∙ plain_same byte pattern t plain
          ∙ row_back pattern t (subst (λ (ps : List (List ℕ)). AreInARow ps t) (sym e) r))
    ]

pub by_pieces : MatchesByPieces
by_pieces pattern text = (row_there pattern text, row_back pattern text)
