-- The text that prints some lines.
use Rattle.std.specs.Prelude.{◌≡◌, ◌||◌, ℕ, ◌+◌, Bool, true, false, List, [], ◌∷◌, ◌++◌}
use Rattle.std.specs.List.{list_any, suffix_len, AllByRecursion}
use Rattle.ds_lines.specs.Line.{Line, is_some, is_blank, is_newline, is_hash, is_end}

-- words with blanks between
abbrev pub line_text : List (List ℕ) → List ℕ
line_text [] = []
line_text (word ∷ []) = word
line_text (word ∷ next ∷ words) = word ++ 32 ∷ line_text (next ∷ words)

-- lines, each with an end
abbrev pub text_of : List (List (List ℕ)) → List ℕ
text_of [] = []
text_of (words ∷ lines) = line_text words ++ 10 ∷ text_of lines

-- lines with numbers from a number on
abbrev pub numbered_lines : ℕ → List (List (List ℕ)) → List Line
numbered_lines n [] = []
numbered_lines n (words ∷ lines) = record { number = n; words = words }
    ∷ numbered_lines (n + 1) lines

-- a byte that stands in no word: a blank, the end of a line, or `#`
abbrev pub is_apart : ℕ → Bool
is_apart byte = is_blank byte || (is_newline byte || is_hash byte)

-- no byte passes a test
abbrev pub HasNo : (ℕ → Bool) → List ℕ → Type 0
HasNo test bytes = list_any test bytes ≡ false

-- bytes, and none that passes a test
pub record IsSomeWithout (test : ℕ → Bool) (bytes : List ℕ) : Type 0 where
  pub some : is_some bytes ≡ true
  pub none : HasNo test bytes

-- a word is not empty, and has no blank, no end of a line and no `#`
abbrev pub IsWord : List ℕ → Type 0
IsWord word = IsSomeWithout is_apart word

-- a line has words, and does not end with a `\`
pub record IsPlain (words : List (List ℕ)) : Type 0 where
  pub some : is_some words ≡ true
  pub each : AllByRecursion IsWord words
  pub end : suffix_len is_end (line_text words) ≡ 0
