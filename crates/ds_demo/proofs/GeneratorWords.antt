-- The words of a generator, one after the other.
use Rattle.std.proofs.Common.{◌≡◌, ℕ, zero, suc, ◌+◌, ◌-◌, ◌<◌, List, [], ◌∷◌, ◌++◌, refl, sym, ◌∙◌}
use Rattle.std.proofs.Common.{ap, arith, append_assoc, append-nil, take, length}
use Rattle.rand_core.specs.Steps.{first_words}

-- the next word, and those of the state after it
first_words-more : (step : ℕ → ℕ × ℕ) (k s : ℕ)
    → first_words step (suc k) s ≡ (step s).0 ∷ first_words step k (step s).1
unfolding first_words
first_words-more step k s = refl

first_words-none : (step : ℕ → ℕ × ℕ) (s : ℕ) → first_words step 0 s ≡ []
unfolding first_words
first_words-none step s = refl

-- a word drawn is the first of those that are left
pub drawn : (step : ℕ → ℕ × ℕ) (words whole new : List ℕ) (count i s x t : ℕ) → i < count
    → (x, t) ≡ step s → words ++ first_words step (count - i) s ≡ whole → new ≡ words ++ x ∷ []
    → new ++ first_words step (count - (i + 1)) t ≡ whole
drawn step words whole new count i s x t inside is so_far pushed =
    let left : count - i ≡ suc (count - (i + 1)) = omega arith in
    let these : first_words step (count - i) s ≡ x ∷ first_words step (count - (i + 1)) t =
    ap (λ (k : ℕ). first_words step k s) left
    ∙ (first_words-more step (count - (i + 1)) s
    ∙ ap (λ (r : ℕ × ℕ). r.0 ∷ first_words step (count - (i + 1)) r.1) (sym is)) in
    ap (λ (l : List ℕ). l ++ first_words step (count - (i + 1)) t) pushed
    ∙ (append_assoc words (x ∷ []) (first_words step (count - (i + 1)) t)
    ∙ (ap (λ (l : List ℕ). words ++ l) (sym these) ∙ so_far))

-- where none are left, all are drawn
pub all_drawn : (step : ℕ → ℕ × ℕ) (words whole : List ℕ) (left s : ℕ) → left ≡ 0
    → words ++ first_words step left s ≡ whole → words ≡ whole
all_drawn step words whole left s none so_far =
    let gone : first_words step left s ≡ [] =
    ap (λ (k : ℕ). first_words step k s) none ∙ first_words-none step s in
    sym (append-nil words) ∙ (ap (λ (l : List ℕ). words ++ l) (sym gone) ∙ so_far)

-- so many words are drawn
pub length-first_words : (step : ℕ → ℕ × ℕ) (k s : ℕ) → length (first_words step k s) ≡ k
length-first_words step zero s = ap length (first_words-none step s)
length-first_words step (suc k) s = ap length (first_words-more step k s)
    ∙ (let n : length (first_words step k (step s).1) ≡ k = length-first_words step k (step s).1 in
    omega arith)

-- the first of more words
pub take-first_words : (step : ℕ → ℕ × ℕ) (k more s : ℕ)
    → take k (first_words step (k + more) s) ≡ first_words step k s
take-first_words step zero more s = sym (first_words-none step s)
take-first_words step (suc k) more s =
    let count : suc k + more ≡ suc (k + more) = omega arith in
    ap (λ (n : ℕ). take (suc k) (first_words step n s)) count
    ∙ (ap (take (suc k)) (first_words-more step (k + more) s)
    ∙ (ap (λ (l : List ℕ). (step s).0 ∷ l) (take-first_words step k more (step s).1)
    ∙ sym (first_words-more step k s)))
