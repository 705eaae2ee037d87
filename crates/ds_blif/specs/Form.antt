-- The forms of lines.
use Rattle.std.specs.Prelude.{ℕ, ◌-◌, Bool, true, false, not, List, [], ◌∷◌, ◌++◌}
use Rattle.std.specs.Prelude.{length, codes, ◌==◌, ◌||◌, ◌&&◌, if◌then◌else◌, nat_lt}
use Rattle.std.specs.List.{list_any, list_all, before_first, position_or_len}
use Rattle.std.specs.Str.{bytes_eq}
use Rattle.ds_lines.specs.Words.{word_at}

-- `0` or `1`
abbrev pub is_output : List ℕ → Bool
is_output word = bytes_eq word (codes "0") || bytes_eq word (codes "1")

-- a character of a row's inputs: `0`, `1` or `-`
abbrev pub is_plane_byte : ℕ → Bool
is_plane_byte byte = (byte == 48) || ((byte == 49) || (byte == 45))

-- a row of a table with so many inputs
unfoldable pub is_row_form : ℕ → List (List ℕ) → Bool
is_row_form width words =
    if width == 0 then ((length words == 1) && is_output (word_at words 0))
    else ((length words == 2) && ((length (word_at words 0) == width) && (list_all is_plane_byte
    (word_at words 0) && is_output (word_at words 1))))

-- the output of a row
abbrev pub output_of : List (List ℕ) → List ℕ
output_of words = word_at words (length words - 1)

-- an edge-triggered type
abbrev pub is_edge : List ℕ → Bool
is_edge word = bytes_eq word (codes "re") || bytes_eq word (codes "fe")

-- a type that is not edge-triggered
abbrev pub is_level : List ℕ → Bool
is_level word = bytes_eq word (codes "ah") || (bytes_eq word (codes "al") || bytes_eq word
    (codes "as"))

-- an initial value
abbrev pub is_init : List ℕ → Bool
is_init word = bytes_eq word (codes "0") || (bytes_eq word (codes "1") || (bytes_eq word
    (codes "2") || bytes_eq word (codes "3")))

-- `.latch D Q`, and then nothing, an initial value, a type and a control, or these three
unfoldable pub is_latch_form : List (List ℕ) → Bool
is_latch_form words =
    if (length words == 3) || (length words == 4) then true
    else (if (length words == 5) || (length words == 6) then (is_edge (word_at words 3) || is_level
    (word_at words 3)) else false)

-- a latch with a type that is not edge-triggered
unfoldable pub is_level_latch : List (List ℕ) → Bool
is_level_latch words = nat_lt 4 (length words) && is_level (word_at words 3)

-- a latch whose initial value is none
unfoldable pub has_bad_init : List (List ℕ) → Bool
has_bad_init words =
    if length words == 4 then not (is_init (word_at words 3))
    else (if length words == 6 then not (is_init (word_at words 5)) else false)

-- `=`
abbrev pub is_equals : ℕ → Bool
is_equals byte = byte == 61

-- there is an `=`, and something before it
abbrev pub is_pair : List ℕ → Bool
is_pair word = nat_lt 0 (position_or_len is_equals word) && nat_lt (position_or_len is_equals word)
    (length word)

-- what stands before the first `=`
abbrev pub formal_of : List ℕ → List ℕ
formal_of word = before_first is_equals word

-- some word is no pair, or has the formal of a word before it, or one of these
abbrev pub has_bad_pairs : List (List ℕ) → List (List ℕ) → Bool
has_bad_pairs formals [] = false
has_bad_pairs formals (word ∷ words) =
    if not (is_pair word) then true
    else (if list_any (bytes_eq (formal_of word)) formals then true
    else has_bad_pairs (formals ++ formal_of word ∷ []) words)
