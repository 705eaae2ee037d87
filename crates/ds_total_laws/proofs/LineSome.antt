-- Each line of a text has a word.
use Rattle.std.proofs.Common.{ℕ, ◌+◌, ◌<◌, List, [], ◌∷◌, ◌++◌, length, arith, inl, inr}
use Rattle.std.specs.List.{AllByRecursion, slice_split}
use Rattle.std.proofs.lemmas.Bool.{cases_Bool}
use Rattle.std.proofs.lemmas.List.Elements.{All-from_recursion}
use Rattle.ds_lines.specs.Line.{Line, is_newline, joins, line_of, lines_from, lines_of, words_in}
use Rattle.ds_groups.specs.Laws.{HaveWords}
use Rattle.ds_stage.proofs.LineWords.{both_all}

abbrev HasWord : Line → Type 0
HasWord line = 0 < length line.words

line_of_some : (number : ℕ) (words : List (List ℕ)) → AllByRecursion HasWord (line_of number words)
line_of_some number [] = tt
line_of_some number (word ∷ words) = (omega arith, tt)

lines_from_some : (first : ℕ) (words : List (List ℕ)) (number : ℕ) (rest : List (List ℕ)) → AllByRecursion HasWord (lines_from first words number rest)
lines_from_some first words number [] = line_of_some first words
lines_from_some first words number (line ∷ rest) =
    elim (cases_Bool (joins line)) [
      | inl joined ↦ rw joined (lines_from_some first (words ++ words_in line) (number + 1) rest)
      | inr alone ↦ rw alone (both_all HasWord (line_of first (words ++ words_in line)) (lines_from (number + 1) [] (number + 1) rest)
          (line_of_some first (words ++ words_in line)) (lines_from_some (number + 1) [] (number + 1) rest))
    ]

pub lines_have_some : (text : List ℕ) → HaveWords (lines_of text)
lines_have_some text = All-from_recursion HasWord (lines_of text) (lines_from_some 1 [] 1 (slice_split is_newline text))
