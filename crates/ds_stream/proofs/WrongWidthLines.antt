-- Lines that are no vector of a width, whatever follows.
use Rattle.std.proofs.Common.{◌≡◌, ◌∙◌, ℕ, zero, suc, ◌+◌, ◌≤◌, ◌<◌, ◌==◌, Bool, true, false, List, [], ◌∷◌, ◌++◌, length, refl, ap, sym, subst, arith, inl, inr, append_assoc, length-append}
use Rattle.std.specs.Prelude.{slice_index_or}
use Rattle.std.specs.List.{filter, list_any, slice_split}
use Rattle.std.proofs.Math.Bool.{and-false}
use Rattle.std.proofs.lemmas.Bool.{cases_Bool, eqb-true, false≢true}
use Rattle.std.proofs.lemmas.List.Elements.{filter-append}
use Rattle.ds_lines.specs.Line.{is_blank, is_some, words_of}
use Rattle.ds_lines.proofs.JoinedLines.{split-append}
use Rattle.ds_rows.specs.Vector.{has_width}
use Rattle.ds_stream.specs.Alike.{AreWrong}

-- a split has a first part
split_some : (p : ℕ → Bool) (bytes : List ℕ) → (part : List ℕ) × (parts : List (List ℕ)) × (slice_split p bytes ≡ part ∷ parts)
split_some p [] = ([], [], refl)
split_some p (byte ∷ bytes) = elim (cases_Bool (p byte)) [
  | inl here ↦ ([], slice_split p bytes, rw here refl)
  | inr other ↦ (let (part, parts, is) = split_some p bytes in (byte ∷ part, parts, rw (other, is) refl))
]

-- no blank, one word
split_plain : (bytes : List ℕ) → list_any is_blank bytes ≡ false → slice_split is_blank bytes ≡ bytes ∷ []
split_plain [] none = refl
split_plain (byte ∷ bytes) none = elim (cases_Bool (is_blank byte)) [
  | inl here ↦ absurd (let h : list_any is_blank (byte ∷ bytes) ≡ true = rw here refl in false≢true (sym none ∙ h))
  | inr other ↦ (let behind : list_any is_blank bytes ≡ false = rw other at none in rw (other, split_plain bytes behind) refl)
]

pub one_word : (bytes : List ℕ) → list_any is_blank bytes ≡ false → 0 < length bytes → words_of bytes ≡ bytes ∷ []
one_word [] none some = absurd (omega (arith, some))
one_word (byte ∷ bytes) none some = rw (split_plain (byte ∷ bytes) none) refl

-- a blank parts words
pub words_of-blank : (front : List ℕ) (at : ℕ) (back : List ℕ) → is_blank at ≡ true → words_of (front ++ at ∷ back) ≡ words_of front ++ words_of back
words_of-blank front at back blank = ap (filter is_some) (split-append is_blank front at back blank)
    ∙ filter-append is_some (slice_split is_blank front) (slice_split is_blank back)

-- bytes with one that is no blank have a word
pub some_words : (front : List ℕ) (at : ℕ) (back : List ℕ) → is_blank at ≡ false → is_some (words_of (front ++ at ∷ back)) ≡ true
some_words [] at back other = let (part, parts, is) = split_some is_blank back in rw (other, is) refl
some_words (byte ∷ front) at back other = elim (cases_Bool (is_blank byte)) [
  | inl here ↦ rw here (some_words front at back other)
  | inr no_blank ↦ (let (part, parts, is) = split_some is_blank (front ++ at ∷ back) in rw (no_blank, is) refl)
]

two : (xs ys : List (List ℕ)) → is_some xs ≡ true → is_some ys ≡ true → 1 < length (xs ++ ys)
two [] ys some more = absurd (false≢true some)
two (x ∷ xs) [] some more = absurd (false≢true more)
two (x ∷ xs) (y ∷ ys) some more = let e : length (x ∷ xs ++ y ∷ ys) ≡ length (x ∷ xs) + length (y ∷ ys) = length-append (x ∷ xs) (y ∷ ys) in omega (arith, e)

-- where a blank stands
blank_in : (bytes : List ℕ) → list_any is_blank bytes ≡ true → (front : List ℕ) × (at : ℕ) × (back : List ℕ) × (bytes ≡ front ++ at ∷ back) × (is_blank at ≡ true)
blank_in [] some = absurd (false≢true some)
blank_in (byte ∷ bytes) some = elim (cases_Bool (is_blank byte)) [
  | inl here ↦ ([], byte, bytes, refl, here)
  | inr other ↦ (let behind : list_any is_blank bytes ≡ true = rw other at some in
      let (front, at, back, is, blank) = blank_in bytes behind in (byte ∷ front, at, back, ap (λ (l : List ℕ). byte ∷ l) is, blank))
]

-- several words are no vector
pub wrong_several : (width : ℕ) (words : List (List ℕ)) → 1 < length words → AreWrong width words
unfolding has_width
wrong_several width [] several = absurd (omega (arith, several))
wrong_several width (word ∷ words) several = record {
  some = refl;
  wrong = λ more. elim (cases_Bool (length (word ∷ words ++ more) == 1)) [
    | inr other ↦ rw other refl
    | inl one ↦ absurd (let e : length (word ∷ words ++ more) ≡ length (word ∷ words) + length more = length-append (word ∷ words) more in
        omega (arith, e, several, eqb-true _ _ one))
  ];
}

-- a word that is too long is no vector
pub wrong_long : (width : ℕ) (word : List ℕ) → 1 < length word → width < length word → AreWrong width (word ∷ [])
unfolding has_width
wrong_long zero [] several wide = absurd (omega (arith, several))
wrong_long zero (a ∷ []) several wide = absurd (omega (arith, several))
wrong_long zero (a ∷ b ∷ word) several wide = record {
  some = refl;
  wrong = λ more. elim (cases_Bool (a == 45)) [
    | inl here ↦ rw here (and-false (length ((a ∷ b ∷ word) ∷ more) == 1))
    | inr other ↦ rw other (and-false (length ((a ∷ b ∷ word) ∷ more) == 1))
  ];
}
wrong_long (suc width) word several wide =
    let some : (suc width == 0) ≡ false = grind arith in
    record {
      some = refl;
      wrong = λ more. rw some (elim (cases_Bool (length word == suc width)) [
        | inl same ↦ absurd (omega (arith, wide, eqb-true _ _ same))
        | inr other ↦ rw other (and-false (length (word ∷ more) == 1))
      ]);
    }

-- the first byte of a longer line
pub begins-append : (line more : List ℕ) → 0 < length line → slice_index_or (line ++ more) 0 0 ≡ slice_index_or line 0 0
begins-append [] more some = absurd (omega (arith, some))
begins-append (byte ∷ line) more some = refl

several_at : (before : List ℕ) (at : ℕ) (back : List ℕ) (last : ℕ) → is_blank at ≡ true → is_blank last ≡ false → is_blank (slice_index_or (before ++ at ∷ back) 0 0) ≡ false → 1 < length (words_of ((before ++ at ∷ back) ++ last ∷ []))
several_at [] at back last here ends first = absurd (false≢true (sym first ∙ here))
several_at (byte ∷ before) at back last here ends first =
    let parts : words_of (((byte ∷ before) ++ at ∷ back) ++ last ∷ []) ≡ words_of (byte ∷ before) ++ words_of (back ++ last ∷ []) =
    ap words_of (append_assoc (byte ∷ before) (at ∷ back) (last ∷ [])) ∙ words_of-blank (byte ∷ before) at (back ++ last ∷ []) here in
    subst (λ (ws : List (List ℕ)). 1 < length ws) (sym parts)
    (two (words_of (byte ∷ before)) (words_of (back ++ last ∷ [])) (some_words [] byte before first) (some_words back last [] ends))

-- two words where a blank stands between others
pub several_words : (front : List ℕ) (last : ℕ) → is_blank (slice_index_or front 0 0) ≡ false → is_blank last ≡ false → list_any is_blank front ≡ true → 1 < length (words_of (front ++ last ∷ []))
several_words front last begins ends blank =
    let (before, at, back, is, here) = blank_in front blank in
    subst (λ (l : List ℕ). is_blank (slice_index_or l 0 0) ≡ false → 1 < length (words_of (l ++ last ∷ []))) (sym is) (λ first. several_at before at back last here ends first) begins

pub plain_with : (front : List ℕ) (last : ℕ) → list_any is_blank front ≡ false → is_blank last ≡ false → list_any is_blank (front ++ last ∷ []) ≡ false
plain_with [] last none ends = rw ends refl
plain_with (byte ∷ front) last none ends = elim (cases_Bool (is_blank byte)) [
  | inl here ↦ absurd (let h : list_any is_blank (byte ∷ front) ≡ true = rw here refl in false≢true (sym none ∙ h))
  | inr other ↦ (let behind : list_any is_blank front ≡ false = rw other at none in rw other (plain_with front last behind ends))
]

-- a line that is longer than a vector
pub are_wrong : (width : ℕ) (front : List ℕ) (last : ℕ) → is_blank (slice_index_or front 0 0) ≡ false → 0 < length front → width ≤ length front → is_blank last ≡ false
    → AreWrong width (words_of (front ++ last ∷ []))
are_wrong width front last begins some wide ends = elim (cases_Bool (list_any is_blank front)) [
  | inl blank ↦ wrong_several width (words_of (front ++ last ∷ [])) (several_words front last begins ends blank)
  | inr none ↦ (
      let long : length (front ++ last ∷ []) ≡ length front + 1 = length-append front (last ∷ []) in
      let plain : list_any is_blank (front ++ last ∷ []) ≡ false = plain_with front last none ends in
      subst (λ (ws : List (List ℕ)). AreWrong width ws) (sym (one_word (front ++ last ∷ []) plain (omega (arith, long, some))))
      (wrong_long width (front ++ last ∷ []) (omega (arith, long, some)) (omega (arith, long, wide))))
]
