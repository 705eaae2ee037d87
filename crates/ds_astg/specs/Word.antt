-- Words of a graph text.
use Rattle.std.specs.Prelude.{ℕ, ◌-◌, Bool, not, List, [], length, take}
use Rattle.std.specs.Prelude.{◌==◌, ◌&&◌, ◌||◌, slice_index_or}
use Rattle.std.specs.Prelude.{if◌then◌else◌}
use Rattle.std.specs.List.{list_any}

-- a byte is this one
abbrev pub is_byte : ℕ → ℕ → Bool
is_byte wanted byte = byte == wanted

-- `/`, which parts an event from the number of its instance
abbrev pub is_slash : ℕ → Bool
is_slash byte = byte == 47

-- `~ < > , { } =`, which with `/` stand in no name
unfoldable pub is_reserved : ℕ → Bool
is_reserved byte = (byte == 126) || ((byte == 60) || ((byte == 62) || ((byte == 44)
    || ((byte == 123) || ((byte == 125) || (byte == 61))))))

-- a word with a `/`
abbrev pub has_slash : List ℕ → Bool
has_slash word = list_any is_slash word

-- a word with one of the others
abbrev pub has_reserved : List ℕ → Bool
has_reserved word = list_any is_reserved word

-- the first byte, 0 where there is none
abbrev pub first_byte : List ℕ → ℕ
first_byte word = slice_index_or word 0 0

-- the last byte, 0 where there is none
abbrev pub last_byte : List ℕ → ℕ
last_byte word = slice_index_or word (length word - 1) 0

-- a word without its last byte
abbrev pub without_last : List ℕ → List ℕ
without_last word = take (length word - 1) word

-- a word that ends in `+` or `-`, so that it stands for an event
unfoldable pub is_signed : List ℕ → Bool
is_signed word = (last_byte word == 43) || (last_byte word == 45)

-- a word that may be a signal
abbrev pub is_signal : List ℕ → Bool
is_signal word = not (has_slash word) && (not (has_reserved word) && not (is_signed word))

-- whether an event falls, as a number
abbrev pub fall_of : List ℕ → ℕ
fall_of word = if last_byte word == 43 then 0 else 1
