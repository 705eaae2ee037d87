-- Words that stand in a list, turn by turn, where others are written.
use Rattle.std.proofs.Common.{◌≡◌, ℕ, suc, ◌+◌, ◌*◌, ◌<◌, ◌≤◌, ◌⊎◌, inl, inr, ⊎_elim, List}
use Rattle.std.proofs.Common.{length, get_or, ◌++◌, sym, ap, ◌∙◌, arith, suc-mul, length-append, refl, ◌-◌}
use Rattle.std.proofs.Common.{set, [], ◌∷◌, length-set, get_or-set_same, get_or-set_other}
use Rattle.std.proofs.Math.Nat.{mul-le-mul_right}
use mathlib.Core.Logic.{dite}
use native.Mathlib.Decide.{ℕ_discrete, dec_lt}
use Rattle.ds_rule.proofs.GetElemLemmas.{get-first, get-second}
use Rattle.ds_fabric.specs.HistoryList.{StandByTurn, IsWritten}

-- so many whole turns before another one
pub turns_before : (k n s : ℕ) → k < n → k * s + s ≤ n * s
turns_before k n s less = omega (arith, suc-mul k s, mul-le-mul_right {m = suc k} {n = n} s less)

-- a word of one turn is before one of a later turn
pub earlier : (k n s a b : ℕ) → a < s → k * s + a < n * s + b → b ≤ s → k ≤ n
earlier k n s a b low less high = dite (dec_lt n k)
    (λ y. absurd (omega (arith, turns_before n k s y)))
    (λ n'. omega arith)

-- one place in a turn belongs to one turn
pub same_turn : (k n s a b : ℕ) → a < s → b < s → k * s + a ≡ n * s + b → (k ≡ n) × (a ≡ b)
same_turn k n s a b low low' e = dite (ℕ_discrete k n)
    (λ y. (y, omega (arith, ap (λ (x : ℕ). x * s) y)))
    (λ no. dite (dec_lt k n) (λ y. absurd (omega (arith, turns_before k n s y)))
    (λ z. absurd (omega (arith, turns_before n k s (omega arith)))))

-- what was written stands behind what stood
pub stands_more : (words words' : List ℕ) (first stride step k o start end : ℕ) (told more : List ℕ)
    → StandByTurn words first stride step told → IsWritten words words' start end more
    → length told ≡ k * stride + o → start ≡ k * step + first + o → end ≡ (k + 1) * step
    → o + length more ≤ stride → StandByTurn words' first stride step (told ++ more)
stands_more words words' first stride step k o start end told more s w long start-is end-is fits =
    let n : ℕ = length told in
    let whole : (j : ℕ) → j * stride < length (told ++ more) → (j + 1) * step ≤ length words' =
    λ j below. dite (dec_lt (j * stride) n)
    (λ y. omega (arith, s.whole j y, w.longer))
    (λ no. dite (dec_lt k j)
    (λ z. absurd (omega (arith, below, length-append told more, turns_before k j stride z)))
    (λ z. dite (dec_lt j k)
    (λ less. absurd (omega (
      arith,
      below,
      length-append told more,
      turns_before j k stride less,
    )))
    (λ same. let e : j ≡ k = omega arith in
    omega (arith, ap (λ (x : ℕ). (x + 1) * step) e, w.reaches)))) in
    record {
      inside = s.inside;
      whole = whole;
      same = λ j p low below. dite (dec_lt (j * stride + p) n)
          (λ y. let le = earlier j k stride p o low (omega arith) (omega arith) in
          let before : j * step + first + p < start = dite (ℕ_discrete j k)
          (λ e. omega (
            arith,
            ap (λ (x : ℕ). x * stride) e,
            ap (λ (x : ℕ). x * step) e,
          ))
          (λ ne. omega (arith, turns_before j k step (omega arith), s.inside)) in
          w.before (j * step + first + p) before (omega (
            arith,
            s.whole j (omega arith),
            suc-mul j step,
            s.inside,
          ))
          ∙ (s.same j p low y ∙ sym (get-first told more (j * stride + p) y)))
          (λ no. let i : ℕ = j * stride + p - n in
          let at : j * stride + p ≡ k * stride + (o + i) = omega arith in
          let few : i < length more = omega (arith, length-append told more) in
          let t = same_turn j k stride p (o + i) low (omega arith) at in
          let place : j * step + first + p ≡ start + i = omega (
            arith,
            t.1,
            ap (λ (x : ℕ). x * step) t.0,
          ) in
          let place' : j * stride + p ≡ n + i = omega arith in
          ap (λ (x : ℕ). get_or words' x 0) place ∙ (w.here i few
          ∙ (sym (get-second told more n i refl)
          ∙ ap (λ (x : ℕ). get_or (told ++ more) x 0) (sym place'))));
    }

-- what stands beside what was written stays
pub stands_else : (words words' : List ℕ) (first stride step k o start end first' stride' : ℕ)
    (told more : List ℕ) → StandByTurn words first stride step told
    → IsWritten words words' start end more → start ≡ k * step + first' + o
    → o + length more ≤ stride' → first' + stride' ≤ step
    → (first + stride ≤ first') ⊎ (first' + stride' ≤ first)
    → StandByTurn words' first stride step told
stands_else words words' first stride step k o start end first' stride' told more s w start-is fits inside beside =
    record {
      inside = s.inside;
      whole = λ j below. omega (arith, s.whole j below, w.longer);
      same = λ j p low below. let at : ℕ = j * step + first + p in
          let near : at < length words = omega (
            arith,
            s.whole j (omega arith),
            suc-mul j step,
            s.inside,
          ) in
          let side : (at < start) ⊎ (start + length more ≤ at) = dite (ℕ_discrete j k)
          (λ e. ⊎_elim
          (λ left. inl (omega (arith, ap (λ (x : ℕ). x * step) e)))
          (λ right. inr (omega (arith, ap (λ (x : ℕ). x * step) e)))
          beside)
          (λ ne. dite (dec_lt j k)
          (λ y. inl (omega (arith, turns_before j k step y, s.inside)))
          (λ no. inr (omega (arith, turns_before k j step (omega arith))))) in
          ⊎_elim (λ y. w.before at y near) (λ y. w.behind at y near) side
          ∙ s.same j p low below;
    }

-- a list that goes on behind another one
pub record GoesOn (old new : List ℕ) : Type 0 where
  pub longer : length old ≤ length new
  pub same : (p : ℕ) → p < length old → get_or new p 0 ≡ get_or old p 0

pub goes_on : (old xs ys : List ℕ) (x : ℕ) → GoesOn old xs → ys ≡ xs ++ x ∷ [] → GoesOn old ys
goes_on old xs ys x g is = let long = ap (λ (zs : List ℕ). length zs) is in record {
  longer = omega (arith, g.longer, long, length-append xs (x ∷ []));
  same = λ p h. ap (λ (zs : List ℕ). get_or zs p 0) is
      ∙ (get-first xs (x ∷ []) p (omega (arith, g.longer)) ∙ g.same p h);
}

-- the first i of the words are written
pub record IsWrittenTo (old new : List ℕ) (start end i : ℕ) (told : List ℕ) : Type 0 where
  pub longer : length old ≤ length new
  pub reaches : end ≤ length new
  pub here : (j : ℕ) → j < i → get_or new (start + j) 0 ≡ get_or told j 0
  pub before : (p : ℕ) → p < start → p < length old → get_or new p 0 ≡ get_or old p 0
  pub behind : (p : ℕ) → start + length told ≤ p → p < length old
      → get_or new p 0 ≡ get_or old p 0

pub written_one : (old new : List ℕ) (start end i x : ℕ) (told : List ℕ)
    → IsWrittenTo old new start end i told → start + length told ≤ end → i < length told
    → x ≡ get_or told i 0 → IsWrittenTo old (set new (start + i) x) start end (i + 1) told
written_one old new start end i x told w fits less is =
    let long : length (set new (start + i) x) ≡ length new = length-set new (start + i) x in record {
      longer = omega (arith, w.longer, long);
      reaches = omega (arith, w.reaches, long);
      here = λ j below. dite (ℕ_discrete j i)
          (λ e. ap (λ (y : ℕ). get_or (set new (start + i) x) (start + y) 0) e
          ∙ (get_or-set_same new (start + i) x 0 (omega (arith, w.reaches))
          ∙ (is ∙ ap (λ (y : ℕ). get_or told y 0) (sym e))))
          (λ n. get_or-set_other new (start + i) (start + j) x 0 (λ e. n (omega (arith, e)))
          ∙ w.here j (omega arith));
      before = λ p h near. get_or-set_other new (start + i) p x 0 (λ e. absurd (omega (arith, e)))
          ∙ w.before p h near;
      behind = λ p h near. get_or-set_other new (start + i) p x 0 (λ e. absurd (omega (arith, e)))
          ∙ w.behind p h near;
    }

-- where a turn ends
pub ends_turn : (k s : ℕ) → (k + 1) * s ≡ k * s + s
ends_turn k s = let e : k + 1 ≡ suc k = omega arith in
    ap (λ (x : ℕ). x * s) e ∙ omega (arith, suc-mul k s)
