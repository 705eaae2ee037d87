-- Lines that have been cut, and the rows of what is told of a line.
use Rattle.std.proofs.Common.{◌≡◌, ◌∙◌, ℕ, zero, suc, ◌<◌, ◌==◌, Bool, true, false, List, [], ◌∷◌, ◌++◌, length, take, refl, ap, sym, subst, arith, inl, inr, length-take, append-nil}
use Rattle.std.specs.Prelude.{slice_index_or}
use Rattle.std.specs.List.{list_any}
use Rattle.std.specs.Str.{bytes_eq}
use Rattle.std.proofs.lemmas.Bool.{cases_Bool, false≢true}
use Rattle.ds_lines.specs.Line.{is_blank, is_some, kept_len, trimmed, words_in, words_of}
use Rattle.ds_rows.specs.Vector.{has_width}
use Rattle.ds_stream.specs.Alike.{AreWrong, IsBegun, told_line}
use Rattle.ds_stream.specs.Word.{IsCut}
use Rattle.ds_stream.proofs.Cut.{cut_of, no_blank, trimmed_at, trimmed_ends, trimmed_twice}
use Rattle.ds_stream.proofs.Likeness.{begun_take, words_told}
use Rattle.ds_stream.proofs.WrongWidthLines.{begins-append, one_word, plain_with, several_words, wrong_several}

some_front : (front : List ℕ) → list_any is_blank front ≡ true → 0 < length front
some_front [] some = absurd (false≢true some)
some_front (byte ∷ front) some = omega arith

blank_front : (front : List ℕ) (last : ℕ) → is_blank last ≡ false → list_any is_blank (front ++ last ∷ []) ≡ true → list_any is_blank front ≡ true
blank_front front last ends some = elim (cases_Bool (list_any is_blank front)) [
  | inl here ↦ here
  | inr none ↦ absurd (false≢true (sym (plain_with front last none ends) ∙ some))
]

-- a line that has been cut, by its last byte
several_cut : (front : List ℕ) (last : ℕ) → is_blank (slice_index_or (front ++ last ∷ []) 0 0) ≡ false → is_blank last ≡ false → list_any is_blank (front ++ last ∷ []) ≡ true
    → 1 < length (words_of (front ++ last ∷ []))
several_cut front last begins ends blank =
    let here = blank_front front last ends blank in
    several_words front last (ap is_blank (sym (begins-append front (last ∷ []) (some_front front here))) ∙ begins) ends here

-- a line with a blank in it has several words
wrong_in : (width : ℕ) (line : List ℕ) → IsCut line → list_any is_blank line ≡ true → AreWrong width (words_of line)
wrong_in width line cut blank = elim (cut_of line) [
  | inl all ↦ absurd (let none : line ≡ [] = sym cut.whole ∙ trimmed_ends line all in
      let zero_long : length line ≡ 0 = ap length none in omega (arith, zero_long, cut.some))
  | inr parts ↦ (let (front, last, back, is, kept, ends) = parts in
      let whole : line ≡ front ++ last ∷ [] = sym cut.whole ∙ (ap trimmed is ∙ trimmed_at front last back kept ends) in
      let begins : is_blank (slice_index_or (front ++ last ∷ []) 0 0) ≡ false = ap (λ (l : List ℕ). is_blank (slice_index_or l 0 0)) (sym whole) ∙ cut.begun.begins in
      let here : list_any is_blank (front ++ last ∷ []) ≡ true = ap (list_any is_blank) (sym whole) ∙ blank in
      subst (λ (l : List ℕ). AreWrong width (words_of l)) (sym whole)
      (wrong_several width (words_of (front ++ last ∷ [])) (several_cut front last begins (no_blank last kept) here)))
]

-- and so not the width
pub wrong_cut : (width : ℕ) (line : List ℕ) → IsCut line → list_any is_blank line ≡ true → has_width width (words_of line) ≡ false
wrong_cut width line cut blank = ap (has_width width) (sym (append-nil (words_of line))) ∙ (wrong_in width line cut blank).wrong []

pub one_cut : (line : List ℕ) → IsCut line → list_any is_blank line ≡ false → words_of line ≡ line ∷ []
one_cut line cut none = one_word line none cut.some

-- what is kept of a line that is told
pub is_cut : (line : List ℕ) (kept : ℕ) → IsBegun line → kept ≡ kept_len line → 0 < kept → IsCut (take kept line)
is_cut line kept begun is some = record {
  begun = begun_take kept line begun;
  some = omega (arith, length-take kept line, is, some);
  whole = subst (λ (k : ℕ). trimmed (take k line) ≡ take k line) (sym is) (trimmed_twice line);
}

pub words_kept : (comment joined : Bool) (line : List ℕ) (kept : ℕ) → IsBegun line → kept ≡ kept_len line → words_in (told_line comment joined line) ≡ words_of (take kept line)
words_kept comment joined line kept begun is = words_told comment joined line begun.plain ∙ ap (λ (k : ℕ). words_of (take k line)) (sym is)

-- where nothing is kept there are no words
pub none_kept : (line : List ℕ) (kept : ℕ) → kept ≡ 0 → words_of (take kept line) ≡ []
none_kept line kept none = ap (λ (k : ℕ). words_of (take k line)) none

-- a line that has been cut has a word
pub some_kept : (line : List ℕ) → IsCut line → is_some (words_of line) ≡ true
some_kept line cut = elim (cases_Bool (list_any is_blank line)) [
  | inr none ↦ ap is_some (one_cut line cut none)
  | inl blank ↦ (wrong_in 0 line cut blank).some
]

-- a line that is cut where bytes are kept has a word, and the words that are told
pub kept_words : (comment joined : Bool) (line lent : List ℕ) (kept : ℕ) → IsBegun line → kept ≡ kept_len line → 0 < kept → lent ≡ line
    → (is_some (words_in (told_line comment joined line)) ≡ true) × (words_in (told_line comment joined line) ≡ words_of (take kept lent))
kept_words comment joined line lent kept begun is some same =
    let words = words_kept comment joined line kept begun is in
    (ap is_some words ∙ some_kept (take kept line) (is_cut line kept begun is some), words ∙ ap (λ (l : List ℕ). words_of (take kept l)) (sym same))

pub positive : (n : ℕ) → (n ≡ 0 → ⊥) → 0 < n
positive zero some = absurd (some refl)
positive (suc n) some = omega arith

-- whether one word has the width
pub width_none : (width : ℕ) (line : List ℕ) → width ≡ 0 → words_of line ≡ line ∷ [] → has_width width (words_of line) ≡ bytes_eq line (45 ∷ [])
unfolding has_width
width_none width line none one = rw (none, one) refl

pub width_some : (width : ℕ) (line : List ℕ) → (width ≡ 0 → ⊥) → words_of line ≡ line ∷ [] → has_width width (words_of line) ≡ (length line == width)
unfolding has_width
width_some zero line some one = absurd (some refl)
width_some (suc width) line some one = let other : (suc width == 0) ≡ false = grind arith in rw (one, other) refl

pub whole_kept : (line : List ℕ) (kept : ℕ) → kept ≡ kept_len line → trimmed (take kept line) ≡ take kept line
whole_kept line kept is = subst (λ (k : ℕ). trimmed (take k line) ≡ take k line) (sym is) (trimmed_twice line)
