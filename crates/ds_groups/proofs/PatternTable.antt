-- The table of a pattern, entry by entry.
use Rattle.std.proofs.Common.{◌≡◌, ◌∙◌, inl, inr, ℕ, ◌+◌, ◌-◌, ◌<◌, ◌≤◌, List, [], ◌∷◌, ◌++◌, length, get_or, drop, sym, ap, subst, arith, length-append}
use Rattle.std.proofs.lemmas.Bool.{cases_eq, cases_lt}
use Rattle.ds_base.proofs.AppendedPairs.{get_or-left, get_or-right}
use Rattle.ds_groups.specs.Stand.{AreFalls, Falls, IsPiece, IsNoStar}
use Rattle.ds_groups.proofs.Falling.{one_start, piece_less}

-- so many entries, and the piece that stands before the next place
pub record AreTold (word falls : List ℕ) (start at : ℕ) : Type 0 where
  pub below : start ≤ at
  pub one_each : length falls ≡ at + 1
  pub told : AreFalls word falls (at + 1)
  pub piece : IsPiece word start (at - start)

pub none_told : (word falls : List ℕ) → length falls ≡ 1 → AreTold word falls 0 0
none_told word falls one = record {
  below = omega arith;
  one_each = omega arith;
  told = λ start held is some low. absurd (omega arith);
  piece = record { within = omega arith; behind = λ h. absurd (omega arith); plain = λ k h. absurd (omega arith) };
}

module _ (word falls : List ℕ) (start at fall : ℕ) (inside : at < length word) (are : AreTold word falls start at) where
  more : ((s h : ℕ) → IsPiece word s h → 0 < h → s + h ≡ at + 1 → Falls (drop s word) h fall) → AreFalls word (falls ++ fall ∷ []) (at + 1 + 1)
  more last s h is some low =
      let n : length falls ≡ at + 1 = are.one_each in
      elim (cases_lt (s + h) (at + 1)) [
        | inl before ↦ subst (λ (f : ℕ). Falls (drop s word) h f) (sym (get_or-left falls (fall ∷ []) (s + h) 0 (omega arith)))
            (are.told s h is some before)
        | inr here ↦ subst (λ (f : ℕ). Falls (drop s word) h f) (sym (get_or-right falls (fall ∷ []) 0 (s + h) 0 (omega arith)))
            (last s h is some (omega arith))
      ]

  pub told_star : get_or word at 0 ≡ 42 → AreTold word (falls ++ fall ∷ []) (at + 1) (at + 1)
  told_star star = record {
    below = omega arith;
    one_each = let n : length falls ≡ at + 1 = are.one_each in length-append falls (fall ∷ []) ∙ ap (λ (k : ℕ). k + 1) n;
    told = more (λ s h is some e. absurd (is.plain (h - 1) (omega arith)
        (ap (λ (n : ℕ). get_or word n 0) (let i : s + (h - 1) ≡ at = omega arith in i) ∙ star)));
    piece = record {
      within = omega arith;
      behind = λ h. ap (λ (n : ℕ). get_or word n 0) (let i : at + 1 - 1 ≡ at = omega arith in i) ∙ star;
      plain = λ k h. absurd (omega arith);
    };
  }

  pub told_more : IsNoStar word at → Falls (drop start word) (at - start + 1) fall
      → AreTold word (falls ++ fall ∷ []) start (at + 1)
  told_more plain falls_so = record {
    below = let b : start ≤ at = are.below in omega arith;
    one_each = let n : length falls ≡ at + 1 = are.one_each in length-append falls (fall ∷ []) ∙ ap (λ (k : ℕ). k + 1) n;
    told = more (λ s h is some e.
        let b : start ≤ at = are.below in
        let same : s ≡ start = one_start word s (h - 1) start (at - start) (piece_less word s h (h - 1) is (omega arith)) are.piece (omega arith) in
        let n : at - start + 1 ≡ h = omega arith in
        subst (λ (t : ℕ). Falls (drop t word) h fall) (sym same) (subst (λ (m : ℕ). Falls (drop start word) m fall) n falls_so));
    piece = let b : start ≤ at = are.below in record {
      within = omega arith;
      behind = are.piece.behind;
      plain = λ k low. elim (cases_eq k (at - start)) [
        | inl here ↦ subst (λ (n : ℕ). IsNoStar word n) (let i : at ≡ start + k = omega arith in i) plain
        | inr other ↦ are.piece.plain k (omega arith)
      ];
    };
  }
