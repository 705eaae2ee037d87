-- A text that prints lines has these lines.
use Rattle.std.proofs.Common.{◌≡◌, ℕ, suc, ◌+◌, Bool, true, false, List, [], ◌∷◌}
use Rattle.std.proofs.Common.{◌++◌, length, take, drop, refl, ap, ◌∙◌, arith}
use Rattle.std.specs.List.{slice_split, list_any, position_or_len}
use Rattle.std.specs.List.{suffix_len, AllByRecursion}
use Rattle.std.proofs.lemmas.List.{take_all}
use Rattle.std.proofs.Math.ListN.{drop_of_length-le}
use Rattle.ds_lines.specs.Line.{Line, lines_from, lines_of, uncommented, trimmed, kept_len}
use Rattle.ds_lines.specs.Line.{is_joined, joins, words_in, words_of, is_blank, is_some, is_newline}
use Rattle.ds_lines.specs.Line.{is_hash, is_backslash, is_end}
use Rattle.ds_lines.specs.Print.{is_apart, line_text, text_of, numbered_lines, HasNo, IsWord}
use Rattle.ds_lines.specs.Print.{IsPlain}
use Rattle.ds_lines.proofs.ByteClasses.{lacks_both, lacks_cons, lacks_less, lacks_parts, no_blank}
use Rattle.ds_lines.proofs.ByteClasses.{no_hash, no_newline}
use Rattle.ds_lines.proofs.JoinedLines.{split-append, words_of-joined}

pub split_plain : (p : ℕ → Bool) (bytes : List ℕ) → HasNo p bytes → slice_split p bytes
    ≡ bytes ∷ []
split_plain p [] none = refl
split_plain p (byte ∷ bytes) none = let (here, behind) = lacks_parts p byte bytes none in rw
    (here, split_plain p bytes behind) refl

position_plain : (p : ℕ → Bool) (bytes : List ℕ) → HasNo p bytes
    → position_or_len p bytes ≡ length bytes
position_plain p [] none = refl
position_plain p (byte ∷ bytes) none = let (here, behind) = lacks_parts p byte bytes none in rw
    (here, position_plain p bytes behind) (let e : 1 + length bytes ≡ suc (length bytes) =
    omega arith in e)

words_of-word : (word : List ℕ) → IsWord word → words_of word ≡ word ∷ []
words_of-word word is = rw
    (split_plain is_blank word (lacks_less is_apart is_blank no_blank word is.none), is.some) refl

pub words_of-line_text : (words : List (List ℕ)) → AllByRecursion IsWord words → words_of
    (line_text words) ≡ words
words_of-line_text [] are = refl
words_of-line_text (word ∷ []) are = words_of-word word are.0
words_of-line_text (word ∷ next ∷ words) are =
    words_of-joined word (line_text (next ∷ words)) ∙ rw
    (words_of-word word are.0, words_of-line_text (next ∷ words) are.1) refl

-- a test that fails at a blank and at the bytes of words
line_text_lacks : (p : ℕ → Bool) → ((byte : ℕ) → is_apart byte ≡ false → p byte ≡ false)
    → p 32 ≡ false → (words : List (List ℕ)) → AllByRecursion IsWord words → HasNo p
    (line_text words)
line_text_lacks p less blank [] are = refl
line_text_lacks p less blank (word ∷ []) are = lacks_less is_apart p less word are.0.none
line_text_lacks p less blank (word ∷ next ∷ words) are =
    lacks_both p word (32 ∷ line_text (next ∷ words)) (lacks_less is_apart p less word are.0.none)
    (lacks_cons p 32 (line_text (next ∷ words)) blank
    (line_text_lacks p less blank (next ∷ words) are.1))

pub newline_line_text : (words : List (List ℕ)) → AllByRecursion IsWord words → HasNo is_newline
    (line_text words)
newline_line_text words are = line_text_lacks is_newline no_newline refl words are

pub hash_line_text : (words : List (List ℕ)) → AllByRecursion IsWord words → HasNo is_hash
    (line_text words)
hash_line_text words are = line_text_lacks is_hash no_hash refl words are

uncommented_plain : (line : List ℕ) → HasNo is_hash line → uncommented line ≡ line
uncommented_plain line none = rw (position_plain is_hash line none) (take_all (length line) line
    (omega arith))

kept_plain : (line : List ℕ) → suffix_len is_end line ≡ 0 → kept_len line ≡ length line
kept_plain line ends = omega arith

words_in-plain : (words : List (List ℕ)) → IsPlain words → words_in (line_text words) ≡ words
unfolding words_in
words_in-plain words is =
    let line : List ℕ = line_text words in
    let whole : uncommented line ≡ line = uncommented_plain line (hash_line_text words is.each) in
    let kept : trimmed line ≡ line = ap (λ n. take n line) (kept_plain line is.end) ∙ take_all
    (length line) line (omega arith) in
    ap (λ l. words_of (trimmed l)) whole ∙ (ap words_of kept ∙ words_of-line_text words is.each)

joins_plain : (words : List (List ℕ)) → IsPlain words → joins (line_text words) ≡ false
unfolding joins
joins_plain words is =
    let line : List ℕ = line_text words in
    let whole : uncommented line ≡ line = uncommented_plain line (hash_line_text words is.each) in
    let nothing : drop (kept_len line) line ≡ [] = ap (λ n. drop n line) (kept_plain line is.end)
    ∙ drop_of_length-le line (omega arith) in
    ap is_joined whole ∙ ap (list_any is_backslash) nothing

-- one line that is not joined
pub line_first : (n : ℕ) (words : List (List ℕ)) (line : List ℕ) (rest : List (List ℕ)) → joins line
    ≡ false → words_in line ≡ words → is_some words ≡ true
    → lines_from n [] n (line ∷ rest) ≡ record { number = n; words = words } ∷ lines_from (n + 1) []
    (n + 1) rest
line_first n words line rest alone is some = rw (alone, is, some) refl

lines_from-text : (n : ℕ) (lines : List (List (List ℕ))) → AllByRecursion IsPlain lines
    → lines_from n [] n (slice_split is_newline (text_of lines)) ≡ numbered_lines n lines
unfolding words_in joins
lines_from-text n [] are = refl
lines_from-text n (words ∷ lines) are =
    let line : List ℕ = line_text words in
    let rest : List (List ℕ) = slice_split is_newline (text_of lines) in
    let split : slice_split is_newline (line ++ 10 ∷ text_of lines) ≡ line ∷ rest =
    split-append is_newline line 10 (text_of lines) refl ∙ ap (λ parts. parts ++ rest)
    (split_plain is_newline line (newline_line_text words are.0.each)) in
    ap (lines_from n [] n) split
    ∙ (line_first n words line rest (joins_plain words are.0)
    (words_in-plain words are.0) are.0.some
    ∙ ap (λ (ls : List Line). record { number = n; words = words } ∷ ls) (lines_from-text
    (n + 1) lines are.1))

pub lines_of-text_of : (lines : List (List (List ℕ))) → AllByRecursion IsPlain lines → lines_of
    (text_of lines) ≡ numbered_lines 1 lines
lines_of-text_of lines are = lines_from-text 1 lines are
