-- The words of a line of a log.
use Rattle.std.specs.Prelude.{ℕ, Bool, List, [], length, Option, None, Some, slice_index_or, ◌==◌}
use Rattle.std.specs.Prelude.{◌&&◌, if◌then◌else◌}
use Rattle.std.specs.Str.Parse.{digits_value}
use Rattle.ds_rows.specs.Number.{is_short_number}

-- the second word of a line
abbrev pub second_word : List (List ℕ) → List ℕ
second_word words = slice_index_or words 1 []

-- two words, the second one to ten digits
abbrev pub is_firing : List (List ℕ) → Bool
is_firing words = (length words == 2) && is_short_number (second_word words)

-- the number on such a line
abbrev pub turn_of : List (List ℕ) → Option ℕ
turn_of words = if is_firing words then Some (digits_value 10 (second_word words)) else None
