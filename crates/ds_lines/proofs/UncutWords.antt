-- Texts of which nothing is cut at the end of a line, and lines whose last word is one.
use Rattle.std.proofs.Common.{◌≡◌, ◌∙◌, ◌||◌, ℕ, ◌-◌, ◌<◌, ◌^◌, Bool, true, false}
use Rattle.std.proofs.Common.{List, [], ◌∷◌, ◌++◌, length, get_or, refl, arith, ap}
use Rattle.std.specs.Prelude.{decimal}
use Rattle.std.specs.List.{AllByRecursion, suffix_len}
use Rattle.std.proofs.lemmas.List.Sums.{suffix_len_is}
use Rattle.ds_lines.specs.Line.{is_backslash, is_blank, is_end}
use Rattle.ds_lines.specs.Print.{is_apart, IsPlain, IsSomeWithout, IsWord, line_text}
use Rattle.ds_lines.proofs.ByteClasses.{lacks_parts, neither, no_blank, number_without, without_less}

-- a text whose last byte is not cut at the end of a line
abbrev pub IsUncut : List ℕ → Type 0
IsUncut [] = ⊥
IsUncut (byte ∷ []) = is_end byte ≡ false
IsUncut (byte ∷ next ∷ bytes) = IsUncut (next ∷ bytes)

-- so it is with a byte before it, or a text
pub uncut_behind : (byte : ℕ) (text : List ℕ) → IsUncut text → IsUncut (byte ∷ text)
uncut_behind byte [] uncut = absurd uncut
uncut_behind byte (next ∷ text) uncut = uncut

pub uncut_both : (front text : List ℕ) → IsUncut text → IsUncut (front ++ text)
uncut_both [] text uncut = uncut
uncut_both (byte ∷ front) text uncut =
    uncut_behind byte (front ++ text) (uncut_both front text uncut)

-- its last byte
last_uncut : (byte : ℕ) (text : List ℕ) → IsUncut (byte ∷ text)
    → is_end (get_or (byte ∷ text) (length text) 0) ≡ false
last_uncut byte [] uncut = uncut
last_uncut byte (next ∷ text) uncut = last_uncut next text uncut

-- nothing is cut
nothing_cut : (text : List ℕ) → IsUncut text → suffix_len is_end text ≡ 0
nothing_cut [] uncut = absurd uncut
nothing_cut (byte ∷ text) uncut =
    let at : length (byte ∷ text) - 1 ≡ length text = omega arith in
    suffix_len_is is_end (byte ∷ text) (length (byte ∷ text)) 0 (omega arith)
    (λ k from below. absurd (omega (arith, from, below)))
    (λ some. ap (λ (k : ℕ). is_end (get_or (byte ∷ text) k 0)) at ∙ last_uncut byte text uncut) ∙
    omega arith

-- the last of some words is not cut
abbrev pub EndsUncut : List (List ℕ) → Type 0
EndsUncut [] = ⊥
EndsUncut (word ∷ []) = IsUncut word
EndsUncut (word ∷ next ∷ words) = EndsUncut (next ∷ words)

line_uncut : (words : List (List ℕ)) → EndsUncut words → IsUncut (line_text words)
line_uncut [] ends = absurd ends
line_uncut (word ∷ []) ends = ends
line_uncut (word ∷ next ∷ words) ends =
    uncut_both word (32 ∷ line_text (next ∷ words))
    (uncut_behind 32 (line_text (next ∷ words)) (line_uncut (next ∷ words) ends))

-- so their line is plain
pub plain_line : (words : List (List ℕ)) → AllByRecursion IsWord words → EndsUncut words
    → IsPlain words
plain_line [] are ends = absurd ends
plain_line (word ∷ words) are ends =
    record {
      some = refl;
      each = are;
      end = nothing_cut (line_text (word ∷ words)) (line_uncut (word ∷ words) ends);
    }

-- a byte that is cut at the end of a line, ends it, or starts a comment
abbrev pub is_cut : ℕ → Bool
is_cut byte = is_backslash byte || is_apart byte

-- a word without such bytes
abbrev pub IsClean : List ℕ → Type 0
IsClean word = IsSomeWithout is_cut word

-- it is a word
cut_apart : (byte : ℕ) → is_cut byte ≡ false → is_apart byte ≡ false
cut_apart byte none = (neither (is_backslash byte) (is_apart byte) none).1

pub clean_word : (word : List ℕ) → IsClean word → IsWord word
clean_word word clean = without_less is_cut is_apart cut_apart word clean

-- whose end is not cut
pub both_false : (a b : Bool) → a ≡ false → b ≡ false → (a || b) ≡ false
both_false a b one other = rw (one, other) refl

cut_end : (byte : ℕ) → is_cut byte ≡ false → is_end byte ≡ false
cut_end byte none =
    both_false (is_blank byte) (is_backslash byte) (no_blank byte (cut_apart byte none))
    (neither (is_backslash byte) (is_apart byte) none).0

pub clean_uncut : (word : List ℕ) → IsClean word → IsUncut word
clean_uncut [] clean = absurd (let some : false ≡ true = clean.some in cc)
clean_uncut (byte ∷ []) clean = cut_end byte (lacks_parts is_cut byte [] clean.none).0
clean_uncut (byte ∷ next ∷ bytes) clean =
    clean_uncut (next ∷ bytes)
    (record { some = refl; none = (lacks_parts is_cut byte (next ∷ bytes) clean.none).1 })

-- as a number
pub clean_number : (n : ℕ) → n < 2 ^ 64 → IsClean (decimal n)
clean_number n small = number_without is_cut refl n small

-- lines of words that are clean
abbrev pub AreClean : List (List ℕ) → Type 0
AreClean words = AllByRecursion IsClean words

clean_words : (words : List (List ℕ)) → AreClean words → AllByRecursion IsWord words
clean_words [] are = tt
clean_words (word ∷ words) (clean, are) = (clean_word word clean, clean_words words are)

clean_ends : (word : List ℕ) (words : List (List ℕ)) → AreClean (word ∷ words)
    → EndsUncut (word ∷ words)
clean_ends word [] (clean, are) = clean_uncut word clean
clean_ends word (next ∷ words) (clean, are) = clean_ends next words are

-- so the line is plain
pub clean_line : (word : List ℕ) (words : List (List ℕ)) → AreClean (word ∷ words)
    → IsPlain (word ∷ words)
clean_line word words are =
    plain_line (word ∷ words) (clean_words (word ∷ words) are) (clean_ends word words are)
