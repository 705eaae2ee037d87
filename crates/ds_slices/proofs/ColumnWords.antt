-- The words of columns, one after another.
use Rattle.std.proofs.Common.{◌≡◌, ◌≢◌, ◌∙◌, ℕ, ◌+◌, ◌<◌, List, length, get_or, set, sym, arith, inl, inr, subst}
use Rattle.std.specs.Prelude.{AllPairs}
use Rattle.std.proofs.lemmas.Bool.{cases_eq}
use Rattle.std.proofs.lemmas.List.{get_or-set_other, get_or-set_same, length-set}
use Rattle.ds_base.specs.Values.{Row}
use Rattle.ds_slices.specs.Turns.{IsColumnWord}

-- the first columns have their words
pub record AreColumnWords (vectors : List Row) (from : ℕ) (columns old words : List ℕ) (n : ℕ) : Type 0 where
  pub size : length words ≡ length old
  pub told : (i : ℕ) → i < n → IsColumnWord vectors from i (get_or words (get_or columns i 0) 0)
  pub others : (net : ℕ) → ((i : ℕ) → i < n → get_or columns i 0 ≢ net) → get_or words net 0 ≡ get_or old net 0

pub column_more : (vectors : List Row) (from : ℕ) (columns old words : List ℕ) (n word : ℕ) → n < length columns → AllPairs (λ a b. a ≢ b) columns
    → get_or columns n 0 < length words → IsColumnWord vectors from n word → AreColumnWords vectors from columns old words n
    → AreColumnWords vectors from columns old (set words (get_or columns n 0) word) (n + 1)
column_more vectors from columns old words n word inside once within is before = record {
  size = length-set words (get_or columns n 0) word ∙ before.size;
  told = λ i below. elim (cases_eq i n) [
    | inl e ↦
        subst (λ (j : ℕ). IsColumnWord vectors from j (get_or (set words (get_or columns n 0) word) (get_or columns j 0) 0)) (sym e)
        (subst (IsColumnWord vectors from n) (sym (get_or-set_same words (get_or columns n 0) word 0 within)) is)
    | inr ne ↦
        subst (IsColumnWord vectors from i)
        (sym (get_or-set_other words (get_or columns n 0) (get_or columns i 0) word 0 (once i n 0 (omega arith) inside)))
        (before.told i (omega arith))
  ];
  others = λ net apart.
      get_or-set_other words (get_or columns n 0) net word 0 (λ e. apart n (omega arith) (sym e))
      ∙ before.others net (λ i below. apart i (omega arith));
}
