-- Short decimal numbers.
use Rattle.std.specs.Prelude.{ℕ, Bool, not, List, length, nat_lt, ◌&&◌}
use Rattle.std.specs.List.{list_all}

-- `0` to `9`
abbrev pub is_decimal : ℕ → Bool
is_decimal byte = not (nat_lt byte 48) && nat_lt byte 58

-- one to ten digits
abbrev pub is_short_number : List ℕ → Bool
is_short_number word =
    nat_lt 0 (length word) && (nat_lt (length word) 11 && list_all is_decimal word)
