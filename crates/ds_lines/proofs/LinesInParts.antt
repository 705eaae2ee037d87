-- The lines of a text in two parts.
use Rattle.std.proofs.Common.{◌≡◌, ℕ, suc, ◌+◌, false, List, [], ◌∷◌, ◌++◌, length}
use Rattle.std.proofs.Common.{sym, ap, ◌∙◌, arith, append_assoc, inl, inr}
use Rattle.std.proofs.lemmas.Bool.{cases_Bool}
use Rattle.std.proofs.lemmas.List.{append-nil}
use Rattle.ds_lines.specs.Line.{Line, line_of, lines_from, joins, words_in}
use Rattle.ds_lines.specs.Window.{ends_open}

-- lines behind a number of physical lines
abbrev pub lines_behind : ℕ → List (List ℕ) → List Line
lines_behind number lines = lines_from (number + 1) [] (number + 1) lines

pub lines_from-append : (first : ℕ) (words : List (List ℕ)) (number : ℕ) (line : List ℕ)
    (lines more : List (List ℕ)) → ends_open (line ∷ lines) ≡ false
    → lines_from first words number (line ∷ lines ++ more) ≡ lines_from first words number (line
    ∷ lines) ++ lines_behind (number + length lines) more
lines_from-append first words number line [] more shut =
    let e : number + 1 ≡ number + 0 + 1 = omega arith in
    rw shut (ap (λ k. line_of first (words ++ words_in line) ++ lines_from k [] k more) e
    ∙ ap (λ ls. ls ++ lines_behind (number + 0) more) (sym (append-nil (line_of first (words
    ++ words_in line)))))
lines_from-append first words number line (next ∷ lines) more shut =
    let e : number + 1 + length lines ≡ number + suc (length lines) = omega arith in
    elim (cases_Bool (joins line)) [
      | inl here ↦ rw here (lines_from-append first (words ++ words_in line)
          (number + 1) next lines more shut
          ∙ ap (λ k. lines_from first (words ++ words_in line) (number + 1) (next ∷ lines)
          ++ lines_behind k more) e)
      | inr other ↦ rw other (ap (λ ls. line_of first (words ++ words_in line) ++ ls)
          (lines_from-append (number + 1) [] (number + 1) next lines more shut
          ∙ ap (λ k. lines_from (number + 1) [] (number + 1) (next ∷ lines)
          ++ lines_behind k more) e)
          ∙ sym (append_assoc (line_of first (words ++ words_in line)) (lines_from (number + 1) []
          (number + 1) (next ∷ lines)) (lines_behind (number + suc (length lines)) more)))
    ]
