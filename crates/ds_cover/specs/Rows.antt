-- Rows as words: of each place whether they take the values there. A list of words says which
-- values the inputs have at the places.
use Rattle.std.specs.Prelude.{ℕ, ◌/◌, ◌%◌, ◌==◌, List, [], ◌∷◌, if◌then◌else◌}
use Rattle.std.specs.Int.RustNames.{bit_and, bit_or}
use Rattle.ds_cover.specs.declared.mask.Mask.{Mask}

-- all of 64 places
abbrev pub all_places : ℕ
all_places = 18446744073709551615

-- a word where the lowest bit asks for it, else all places
abbrev pub kept_word : ℕ → ℕ → ℕ
kept_word needs word = if needs % 2 == 0 then all_places else word

-- the places where all words have a bit that the bits ask for
abbrev pub asked_word : List ℕ → ℕ → ℕ
asked_word [] needs = all_places
asked_word (word ∷ words) needs =
    bit_and (asked_word words (needs / 2)) (kept_word needs word)

-- the places that a row takes, by the words of the places where an input is one and where it is
-- zero
abbrev pub row_word : List ℕ → List ℕ → Mask → ℕ
row_word ones zeros mask =
    bit_and (asked_word ones mask.needs_one) (asked_word zeros mask.needs_zero)

-- the places that some row takes
abbrev pub some_word : List ℕ → List ℕ → List Mask → ℕ
some_word ones zeros [] = 0
some_word ones zeros (mask ∷ masks) =
    bit_or (some_word ones zeros masks) (row_word ones zeros mask)
