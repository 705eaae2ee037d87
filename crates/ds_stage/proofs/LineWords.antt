-- The lines of a text have words: none is empty, and none has a blank, an end of a line or a `#`.
use Rattle.std.proofs.Common.{◌≡◌, ℕ, suc, ◌+◌, Bool, false, List, [], ◌∷◌, ◌++◌, refl, arith, inl, inr, ◌||◌}
use Rattle.std.specs.List.{slice_split, onto_first, filter, before_first, position_or_len, AllByRecursion}
use Rattle.std.proofs.lemmas.Bool.{cases_Bool}
use Rattle.ds_lines.specs.Line.{Line, line_of, lines_from, lines_of, uncommented, trimmed, kept_len, joins, words_in, is_blank, is_some, is_newline, is_hash}
use Rattle.ds_lines.specs.Print.{HasNo, IsWord}
use Rattle.ds_lines.proofs.ByteClasses.{lacks_either, lacks_parts, lacks_take}

-- before the first that passes
lacks_before : (p : ℕ → Bool) (bytes : List ℕ) → HasNo p (before_first p bytes)
lacks_before p [] = refl
lacks_before p (byte ∷ bytes) = elim (cases_Bool (p byte)) [
  | inl here ↦ rw here refl
  | inr other ↦
      (let next : 1 + position_or_len p bytes ≡ suc (position_or_len p bytes) = omega arith in
      rw (other, next, other, lacks_before p bytes) refl)
]

-- the parts of a split
onto_lacks : (q : ℕ → Bool) (byte : ℕ) (parts : List (List ℕ)) → q byte ≡ false → AllByRecursion (HasNo q) parts → AllByRecursion (HasNo q) (onto_first byte parts)
onto_lacks q byte [] here all = (rw here refl, tt)
onto_lacks q byte (part ∷ parts) here (first, rest) = (rw (here, first) refl, rest)

split_lacks : (q p : ℕ → Bool) (bytes : List ℕ) → HasNo q bytes → AllByRecursion (HasNo q) (slice_split p bytes)
split_lacks q p [] none = (refl, tt)
split_lacks q p (byte ∷ bytes) none =
    let (here, behind) = lacks_parts q byte bytes none in
    elim (cases_Bool (p byte)) [
      | inl cut ↦ rw cut (refl, split_lacks q p bytes behind)
      | inr other ↦ rw other (onto_lacks q byte (slice_split p bytes) here (split_lacks q p bytes behind))
    ]

split_free : (p : ℕ → Bool) (bytes : List ℕ) → AllByRecursion (HasNo p) (slice_split p bytes)
split_free p [] = (refl, tt)
split_free p (byte ∷ bytes) = elim (cases_Bool (p byte)) [
  | inl cut ↦ rw cut (refl, split_free p bytes)
  | inr other ↦ rw other (onto_lacks p byte (slice_split p bytes) other (split_free p bytes))
]

-- those that are not empty
some_are : (parts : List (List ℕ)) → AllByRecursion (HasNo is_blank) parts → AllByRecursion (HasNo (λ byte. is_newline byte || is_hash byte)) parts
    → AllByRecursion IsWord (filter is_some parts)
some_are [] blank other = tt
some_are ([] ∷ parts) (b, blank) (o, other) = some_are parts blank other
some_are ((byte ∷ part) ∷ parts) (b, blank) (o, other) =
    (record { some = refl; none = lacks_either is_blank (λ byte. is_newline byte || is_hash byte) (byte ∷ part) b o }, some_are parts blank other)

-- the words of a physical line
words_in_are : (line : List ℕ) → HasNo is_newline line → AllByRecursion IsWord (words_in line)
unfolding words_in
words_in_are line none =
    let other : ℕ → Bool = λ byte. is_newline byte || is_hash byte in
    let cut : List ℕ = trimmed (uncommented line) in
    let kept : HasNo other (uncommented line) =
    lacks_either is_newline is_hash (uncommented line) (lacks_take is_newline (position_or_len is_hash line) line none) (lacks_before is_hash line) in
    some_are (slice_split is_blank cut) (split_free is_blank cut)
    (split_lacks other is_blank cut (lacks_take other (kept_len (uncommented line)) (uncommented line) kept))

pub both_all : {X : Type 0} (P : X → Type 0) (xs ys : List X) → AllByRecursion P xs → AllByRecursion P ys → AllByRecursion P (xs ++ ys)
both_all P [] ys all more = more
both_all P (x ∷ xs) ys (here, all) more = (here, both_all P xs ys all more)

-- each line has words
abbrev pub HaveWords : List Line → Type 0
HaveWords lines = AllByRecursion (λ (line : Line). AllByRecursion IsWord line.words) lines

line_of_has : (number : ℕ) (words : List (List ℕ)) → AllByRecursion IsWord words → HaveWords (line_of number words)
line_of_has number [] are = tt
line_of_has number (word ∷ words) are = (are, tt)

lines_from_have : (first : ℕ) (words : List (List ℕ)) (number : ℕ) (rest : List (List ℕ)) → AllByRecursion IsWord words → AllByRecursion (HasNo is_newline) rest
    → HaveWords (lines_from first words number rest)
lines_from_have first words number [] are none = line_of_has first words are
lines_from_have first words number (line ∷ rest) are (here, behind) =
    let more : AllByRecursion IsWord (words ++ words_in line) = both_all IsWord words (words_in line) are (words_in_are line here) in
    elim (cases_Bool (joins line)) [
      | inl joined ↦ rw joined (lines_from_have first (words ++ words_in line) (number + 1) rest more behind)
      | inr alone ↦ rw alone (both_all (λ (line : Line). AllByRecursion IsWord line.words)
          (line_of first (words ++ words_in line)) (lines_from (number + 1) [] (number + 1) rest)
          (line_of_has first (words ++ words_in line) more) (lines_from_have (number + 1) [] (number + 1) rest tt behind))
    ]

pub lines_have_words : (text : List ℕ) → HaveWords (lines_of text)
lines_have_words text = lines_from_have 1 [] 1 (slice_split is_newline text) tt (split_free is_newline text)
