-- What lines stand for as vectors, and their first fault.
use Rattle.std.specs.Prelude.{ℕ, ◌+◌, Bool, true, not, List, [], ◌∷◌, map, length}
use Rattle.std.specs.Prelude.{codes, Option, None, Result, ◌==◌}
use Rattle.std.specs.Prelude.{◌||◌, ◌&&◌, if◌then◌else◌, nat_lt}
use Rattle.std.specs.List.{list_all}
use Rattle.std.specs.Str.{bytes_eq}
use Rattle.ds_lines.specs.First.{where_true, first_of, unless_fault, fault_or}
use Rattle.ds_lines.specs.Words.{first_word}
use Rattle.ds_base.specs.Limit.{most_of}
use Rattle.ds_base.specs.Values.{Row}
use Rattle.ds_base.specs.declared.number.Limit.TheVariants.{Vectors as VectorLimit}
use Rattle.ds_base.specs.declared.value.Value.{Value}
use Rattle.ds_base.specs.declared.value.Value.TheVariants.{Zero, One, Unknown}
use Rattle.ds_design.specs.Rows.{Rows}
use Rattle.ds_lines.specs.Line.{Line}
use Rattle.ds_rows.specs.declared.fault.VectorKind.{VectorKind}
use Rattle.ds_rows.specs.declared.fault.VectorKind.TheVariants.{TooMany, BadWidth, BadBit}
use Rattle.ds_lines.specs.declared.at.At.{At}

-- `0`, `1` or `x`
abbrev pub is_bit : ℕ → Bool
is_bit byte = (byte == 48) || ((byte == 49) || (byte == 120))

-- the value of such a character
abbrev pub value_of_character : ℕ → Value
value_of_character byte = if byte == 49 then One else (if byte == 120 then Unknown else Zero)

-- one word of so many characters; for width 0 the word `-`
unfoldable pub has_width : ℕ → List (List ℕ) → Bool
has_width width words = (length words == 1)
    && (if width == 0 then bytes_eq (first_word words) (codes "-")
    else (length (first_word words) == width))

-- each character of the word is a value
unfoldable pub has_bits : ℕ → List (List ℕ) → Bool
has_bits width words = if width == 0 then true else list_all is_bit (first_word words)

-- the row of a line's words
unfoldable pub row_of : ℕ → List (List ℕ) → Row
row_of width words = if width == 0 then [] else map value_of_character (first_word words)

-- what is wrong with a line's words, where so many vectors stand before the line
abbrev pub fault_of_vector : ℕ → ℕ → List (List ℕ) → Option VectorKind
fault_of_vector width seen words = first_of (
    where_true (not (nat_lt seen (most_of VectorLimit))) (TooMany VectorLimit)
    ∷ where_true (not (has_width width words)) BadWidth
    ∷ where_true (not (has_bits width words)) BadBit
    ∷ [])

-- the first fault of lines, where so many vectors stand before them
abbrev pub first_vector_fault : ℕ → ℕ → List Line → Option (At VectorKind)
first_vector_fault width seen [] = None
first_vector_fault width seen (line ∷ lines) = fault_or
    (fault_of_vector width seen line.words) line.number
    (first_vector_fault width (seen + 1) lines)

-- the rows of lines, one a line
abbrev pub rows_of_lines : ℕ → List Line → List Row
rows_of_lines width lines = map (λ line. row_of width line.words) lines

-- what lines stand for as vectors of a width: their rows, or their first fault
abbrev pub vectors_of : ℕ → List Line → Result Rows (At VectorKind)
vectors_of width lines = unless_fault (first_vector_fault width 0 lines)
    (record { width = width; rows = rows_of_lines width lines })
