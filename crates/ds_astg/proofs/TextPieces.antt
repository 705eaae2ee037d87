-- Pieces one after another.
use Rattle.std.proofs.Common.{◌≡◌, ℕ, zero, suc, ◌+◌, ◌-◌, ◌<◌, ◌≤◌, List, [], ◌∷◌, ◌++◌, refl, arith, ap, sym, ◌∙◌, subst, inl, inr, add-one}
use Rattle.std.proofs.lemmas.Bool.{cases_eq}
use Rattle.std.proofs.lemmas.List.{append-nil}
use Rattle.std.specs.Prelude.{codes}
use Rattle.ds_outside.specs.Pen.{Puts, Writing}
use Rattle.ds_outside.proofs.Pens.{puts_on, with_put}
use Rattle.ds_astg.specs.Pieces.{all_below, line_with}

pub all_below-next : (piece : ℕ → List ℕ) (n : ℕ) → all_below piece (n + 1) ≡ all_below piece n ++ piece n
all_below-next piece n = ap (all_below piece) (add-one n)

-- one piece more
pub one_more : {a b c : Writing} (piece : ℕ → List ℕ) (n : ℕ) → Puts a b (all_below piece n) → Puts b c (piece n) → Puts a c (all_below piece (n + 1))
one_more piece n before here = with_put (sym (all_below-next piece n)) (puts_on before here)

-- where all pieces from one number up to another are empty, they add nothing
pub silent : (piece : ℕ → List ℕ) (low count : ℕ) → ((k : ℕ) → low ≤ k → k < low + count → piece k ≡ []) → all_below piece (low + count) ≡ all_below piece low
silent piece low zero none = let e : low + 0 ≡ low = omega arith in ap (all_below piece) e
silent piece low (suc count) none =
    let e : low + suc count ≡ suc (low + count) = omega arith in
    ap (all_below piece) e ∙ (ap (λ (t : List ℕ). all_below piece (low + count) ++ t) (none (low + count) (omega arith) (omega arith))
    ∙ (append-nil (all_below piece (low + count)) ∙ silent piece low count (λ k above below. none k above (omega arith))))

-- from one number up to another
pub silent_to : (piece : ℕ → List ℕ) (low high : ℕ) → low ≤ high → ((k : ℕ) → low ≤ k → k < high → piece k ≡ []) → all_below piece high ≡ all_below piece low
silent_to piece low high order none =
    let (count, e) = rest low high order in
    ap (all_below piece) (sym e) ∙ silent piece low count (λ k above below. none k above (omega (arith, e)))
  where
    rest : (low high : ℕ) → low ≤ high → (count : ℕ) × (low + count ≡ high)
    rest low high order = (high - low, omega arith)

-- a text that is not empty
abbrev pub IsSome : List ℕ → Type 0
IsSome text = (byte : ℕ) × (rest : List ℕ) × (text ≡ byte ∷ rest)

some_before : (one other : List ℕ) → IsSome one → IsSome (one ++ other)
some_before one other (byte, rest, is) = (byte, rest ++ other, rw is refl)

some_behind : (one other : List ℕ) → IsSome other → IsSome (one ++ other)
some_behind [] other is = is
some_behind (byte ∷ rest) other is = (byte, rest ++ other, refl)

-- pieces of which one is not empty
pub some_piece : (piece : ℕ → List ℕ) (n k : ℕ) → k < n → IsSome (piece k) → IsSome (all_below piece n)
some_piece piece zero k below is = absurd (omega arith)
some_piece piece (suc n) k below is = elim (cases_eq k n) [
  | inl e ↦ some_behind (all_below piece n) (piece n) (subst (λ (j : ℕ). IsSome (piece j)) e is)
  | inr ne ↦ some_before (all_below piece n) (piece n) (some_piece piece n k (omega arith) is)
]

-- a line with something behind its word
pub line_some : (word text : List ℕ) → IsSome text → line_with word text ≡ word ++ text ++ codes "\n"
line_some word text (byte, rest, is) = rw is refl
