-- The numbers of a run are small.
use Rattle.std.proofs.Common.{◌≡◌, ℕ, zero, suc, ◌+◌, ◌*◌, ◌<◌, ◌≤◌, ◌^◌, List, [], ◌∷◌, length, get_or, cond, eqb, true, false, Bool, arith, ap, ◌∙◌, inl, inr, mul-zero, All}
use Rattle.std.proofs.Math.Nat.{mul-le-mul_right}
use Rattle.std.proofs.lemmas.Bool.{cases_lt}
use Rattle.ds_base.specs.Word.{count_of_words}
use Rattle.ds_rule.specs.Run.{Run}
use Rattle.ds_rule.specs.Words.{widths, width, before, size}
use Rattle.ds_rule.specs.Sound.{edge_at, read_words}
use Rattle.ds_rule.proofs.GetElemLemmas.{get-beyond}
use Rattle.ds_rule.proofs.PlaceLaws.{width-is}

-- rows that take at most so many words each, of nodes behind which rows take none
before_few : (n : ℕ) (ws : List ℕ) (l m : ℕ) → ((j : ℕ) → n * get_or ws j 0 ≤ 2147483648)
    → ((j : ℕ) → m ≤ j → get_or ws j 0 ≡ 0) → before n ws l ≤ m * 2147483648
before_few n ws zero m few none = omega arith
before_few n [] (suc l) m few none = omega arith
before_few n (w ∷ ws) (suc l) zero few none =
    let here : n * w ≡ 0 = ap (λ (x : ℕ). n * x) (none 0 (omega arith)) ∙ mul-zero n in
    omega (arith, before_few n ws l zero (λ j. few (suc j)) (λ j h. none (suc j) (omega arith)))
before_few n (w ∷ ws) (suc l) (suc m) few none =
    omega (arith, few 0, before_few n ws l m (λ j. few (suc j)) (λ j h. none (suc j) (omega arith)))

module _ (run : Run) (few : All (λ n. n < 2 ^ 32) run.lengths) where
  -- a row has few values, takes few words, and so do all rows that a node reads
  length_few : (l : ℕ) → get_or run.lengths l 0 < 4294967296
  length_few l = elim (cases_lt l (length run.lengths)) [
    | inl inside ↦ few l 0 inside
    | inr past ↦ omega (arith, get-beyond run.lengths l 0 past)
  ]

  pub width_few : (l : ℕ) → width run l ≤ 134217728
  width_few l = omega (arith, length_few l, width-is run l)

  pub read_few : (l n : ℕ) → read_words run l n ≤ n * 134217729
  read_few l zero = omega arith
  read_few l (suc n) =
      let w : ℕ = width run (edge_at run n).producer in
      let more : (b : Bool) → cond b (1 + w) 0 ≤ 134217729
      = λ b. elim b as (λ b. cond b (1 + w) 0 ≤ 134217729) [
        | true ↦ omega (arith, width_few (edge_at run n).producer)
        | false ↦ omega arith
      ] in
      omega (arith, read_few l n, more (eqb (edge_at run n).consumer l))

width-at : (run : Run) (l : ℕ) → get_or (widths run) l 0 ≡ count_of_words (get_or run.lengths l 0)
unfolding width
width-at run l = width-is run l

-- at most so many nodes have rows
pub size_few : (run : Run) (m : ℕ) → All (λ n. n < 2 ^ 32) run.lengths
    → ((l : ℕ) → m ≤ l → get_or run.lengths l 0 ≡ 0)
    → run.slack ≤ 15 → size run ≤ 1 + run.nodes + m * 2147483648
unfolding size
size_few run m few none low =
    let words : (l : ℕ) → get_or (widths run) l 0 ≡ count_of_words (get_or run.lengths l 0)
    = width-at run in
    let rows : (l : ℕ) → (run.slack + 1) * get_or (widths run) l 0 ≤ 2147483648 = λ l. omega (
      arith,
      words l,
      length_few run few l,
      mul-le-mul_right {m = run.slack + 1} {n = 16} (get_or (widths run) l 0) (omega arith),
    ) in
    omega (
      arith,
      before_few (run.slack + 1) (widths run) run.nodes m rows
          (λ l past. omega (arith, words l, none l past)),
    )
