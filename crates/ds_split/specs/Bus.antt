-- Names of buses.
use Rattle.std.specs.Prelude.{ℕ, Bool, List, [], ◌∷◌, ◌&&◌, ◌==◌, drop, ltb, codes, if◌then◌else◌}
use Rattle.std.specs.List.{prefix_len}
use Rattle.std.specs.Char.{is_ascii_digit}
use Rattle.std.specs.Str.{bytes_eq}

-- a text is one digit or more, and then `]` ends it
abbrev pub is_index : List ℕ → Bool
is_index text =
    let digits = prefix_len is_ascii_digit text in ltb 0 digits
    && bytes_eq (drop digits text) (codes "]")

-- a name with one trailing `[digits]` cut off where there is one; 91 is `[`
abbrev pub bus_name : List ℕ → List ℕ
bus_name [] = []
bus_name (byte ∷ rest) = if (byte == 91) && is_index rest then [] else byte ∷ bus_name rest
