-- The numbers among the words.
use Rattle.std.specs.Prelude.{ℕ, Bool, ◌&&◌, List, length, nat_lt, nat_le, Option, Some, None}
use Rattle.std.specs.Prelude.{codes, option_map, if◌then◌else◌}
use Rattle.std.specs.Char.{is_ascii_digit}
use Rattle.std.specs.List.{list_all}
use Rattle.std.specs.Str.Parse.{digits_value}
use Rattle.clap.specs.Words.{Row, Text, first_of}

-- one to twenty decimal digits
abbrev pub is_numeral : Text → Bool
is_numeral word = nat_lt 0 (length word)
    && (nat_lt (length word) 21 && list_all is_ascii_digit word)

-- from least to most
abbrev pub is_between : ℕ → ℕ → ℕ → Bool
is_between least most value = nat_le least value && nat_le value most

-- the number that the word writes, where it is one from least to most
unfoldable pub number_in_range : ℕ → ℕ → Text → Option ℕ
number_in_range least most word = if is_numeral word && is_between least most (digits_value 10 word)
    then Some (digits_value 10 word) else None

-- the number of the option's value, from 1 to 64, and 1 without the option
abbrev pub number_or_one : Option Text → Option ℕ
number_or_one None = Some 1
number_or_one (Some word) = number_in_range 1 64 word

-- how many threads are wanted, by the values of a command's arguments
abbrev pub jobs_of : List Row → Option ℕ
jobs_of rows = number_or_one (first_of (codes "jobs") rows)

-- the number of the option's value, from 0 to 15, and 0 without the option
abbrev pub number_or_zero : Option Text → Option ℕ
number_or_zero None = Some 0
number_or_zero (Some word) = number_in_range 0 15 word

-- how many openings a producer may run ahead, by the values of a command's arguments
abbrev pub slack_of : List Row → Option ℕ
slack_of rows = number_or_zero (first_of (codes "slack") rows)

-- the number of the option's value, any of 64 bits, and none without the option
abbrev pub number_or_none : Option Text → Option (Option ℕ)
number_or_none None = Some None
number_or_none (Some word) = option_map Some (number_in_range 0 18446744073709551615 word)

-- how many events each worker fires at most, where there is such a bound, by the values of a
-- command's arguments
abbrev pub stop_in : List Row → Option (Option ℕ)
stop_in rows = number_or_none (first_of (codes "stop") rows)
