-- A joined line has the words of its parts.
use Rattle.std.proofs.Common.{◌≡◌, ℕ, ◌+◌, Bool, true, List, [], ◌∷◌, ◌++◌, refl, sym}
use Rattle.std.proofs.Common.{ap, ◌∙◌, append_assoc, inl, inr}
use Rattle.std.specs.List.{slice_split, filter, flat_map}
use Rattle.std.proofs.lemmas.Bool.{cases_Bool}
use Rattle.std.proofs.lemmas.List.{append-nil}
use Rattle.ds_lines.specs.Line.{Line, line_of, lines_from, lines_of, uncommented, trimmed, joins}
use Rattle.ds_lines.specs.Line.{words_in, words_of, is_blank, is_some, is_newline}
use Rattle.ds_lines.specs.Joined.{Text, joined_to, lines_joined, line_in_text, joined_lines}

-- a split has a first part
split_some : (p : ℕ → Bool) (bytes : List ℕ) → (part : List ℕ) × (parts : List (List ℕ)) ×
    (slice_split p bytes ≡ part ∷ parts)
split_some p [] = ([], [], refl)
split_some p (byte ∷ bytes) = elim (cases_Bool (p byte)) [
  | inl here ↦ ([], slice_split p bytes, rw here refl)
  | inr other ↦ (let (part, parts, is) = split_some p bytes in (
    byte ∷ part,
    parts,
    rw
        (other, is) refl,
  ))
]

pub split-append : (p : ℕ → Bool) (bytes : List ℕ) (at : ℕ) (more : List ℕ) → p at ≡ true
    → slice_split p (bytes ++ at ∷ more) ≡ slice_split p bytes ++ slice_split p more
split-append p [] at more is = rw is refl
split-append p (byte ∷ bytes) at more is = elim (cases_Bool (p byte)) [
  | inl here ↦ rw (here, split-append p bytes at more is) refl
  | inr other ↦ (let (part, parts, e) = split_some p bytes in
      rw (other, split-append p bytes at more is, e) refl)
]

pub filter-append : (parts more : List (List ℕ)) → filter is_some (parts ++ more) ≡ filter is_some parts
    ++ filter is_some more
filter-append [] more = refl
filter-append (part ∷ parts) more = elim (cases_Bool (is_some part)) [
  | inl here ↦ rw (here, filter-append parts more) refl
  | inr other ↦ rw (other, filter-append parts more) refl
]

pub words_of-joined : (bytes more : List ℕ) → words_of (bytes ++ 32 ∷ more) ≡ words_of bytes
    ++ words_of more
words_of-joined bytes more = ap (filter is_some) (split-append is_blank bytes 32 more refl)
    ∙ filter-append (slice_split is_blank bytes) (slice_split is_blank more)

-- the lines of texts, the first of which goes on from these words of a line that began at a number
abbrev pub lines_after : ℕ → List (List ℕ) → List Text → List Line
lines_after first words [] = line_of first words
lines_after first words (text ∷ texts) = line_of first (words ++ words_of text.bytes)
    ++ flat_map line_in_text texts

lines_after-joined : (first : ℕ) (words : List (List ℕ)) (number : ℕ) (bytes : List ℕ)
    (texts : List Text) → lines_after first words (joined_to number bytes texts) ≡ lines_after first
    (words ++ words_of bytes) texts
lines_after-joined first words number bytes [] = append-nil (line_of first (words
    ++ words_of bytes))
lines_after-joined first words number bytes (text ∷ texts) =
    rw (words_of-joined bytes text.bytes, append_assoc) refl

-- a text that is joined to others is the first of them
after_joined : (number : ℕ) (bytes : List ℕ) (texts : List Text) → lines_after number []
    (joined_to number bytes texts) ≡ flat_map line_in_text (joined_to number bytes texts)
after_joined number bytes [] = refl
after_joined number bytes (text ∷ texts) = refl

-- where no line is open, all texts are lines
lines_after-none : (number : ℕ) (lines : List (List ℕ)) → lines_after number []
    (lines_joined number lines) ≡ flat_map line_in_text (lines_joined number lines)
lines_after-none number [] = refl
lines_after-none number (line ∷ lines) = elim (cases_Bool (joins line)) [
  | inl here ↦ rw here (after_joined number (trimmed (uncommented line)) (lines_joined
      (number + 1) lines))
  | inr other ↦ rw other refl
]

pub lines_from_is : (first : ℕ) (words : List (List ℕ)) (number : ℕ) (lines : List (List ℕ))
    → lines_from first words number lines ≡ lines_after first words (lines_joined number lines)
unfolding words_in
lines_from_is first words number [] = refl
lines_from_is first words number (line ∷ lines) = elim (cases_Bool (joins line)) [
  | inl here ↦ rw here (lines_from_is first (words ++ words_in line) (number + 1) lines ∙ sym
      (lines_after-joined first words number (trimmed (uncommented line)) (lines_joined
      (number + 1) lines)))
  | inr other ↦ rw other (ap (λ ls. line_of first (words ++ words_in line) ++ ls) (lines_from_is
      (number + 1) [] (number + 1) lines ∙ lines_after-none (number + 1) lines))
]

pub lines_of_joined : (text : List ℕ) → lines_of text ≡ joined_lines text
lines_of_joined text = lines_from_is 1 [] 1 (slice_split is_newline text) ∙ lines_after-none 1
    (slice_split is_newline text)
