-- The marking: entries between braces.
use Rattle.std.specs.Prelude.{ℕ, ◌+◌, ◌-◌, ◌*◌, Bool, List, [], ◌∷◌, length, drop, Option, None}
use Rattle.std.specs.Prelude.{Some, Result, Ok, Err, ◌==◌, ◌&&◌, nat_lt, is_some, not, slice_set}
use Rattle.std.specs.Prelude.{if◌then◌else◌}
use Rattle.std.specs.List.{list_all, position_or_len, before_first, after_first}
use Rattle.std.specs.Char.{is_ascii_digit}
use Rattle.ds_lines.specs.Words.{word_at}
use Rattle.ds_astg.specs.Word.{is_byte, first_byte, last_byte, without_last}
use Rattle.ds_astg.specs.Signals.{Declared}
use Rattle.ds_astg.specs.Node.{event_in}
use Rattle.ds_astg.specs.Place.{Places, Key, number_of_place, place_at, has_place, with_place_at}
use Rattle.ds_astg.specs.Place.Key.{Named, Between}
use Rattle.ds_astg.specs.Turn.{all_of}
use Rattle.ds_astg.specs.declared.place.Place.{Place}
use Rattle.ds_astg.specs.declared.fault.AstgKind.{AstgKind}
use Rattle.ds_astg.specs.declared.fault.AstgKind.TheVariants.{BadMarking}

-- a number of digits, behind another
abbrev pub value_from : ℕ → List ℕ → ℕ
value_from value [] = value
value_from value (digit ∷ digits) = value_from (10 * value + (digit - 48)) digits

-- one to three digits
abbrev pub is_number : List ℕ → Bool
is_number text = nat_lt 0 (length text) && (nat_lt (length text) 4 && list_all is_ascii_digit text)

-- a number of tokens: one to three digits, at most 255
abbrev pub number_in : List ℕ → Option ℕ
number_in text =
    if is_number text && nat_lt (value_from 0 text) 256 then Some (value_from 0 text) else None

-- the tokens of an entry: the number behind its `=`, which is 61, one where there is none
abbrev pub tokens_of_entry : List ℕ → Option ℕ
tokens_of_entry entry =
    if nat_lt (position_or_len (is_byte 61) entry) (length entry)
    then number_in (after_first (is_byte 61) entry)
    else Some 1

-- what stands in an entry for its place
abbrev pub place_text : List ℕ → List ℕ
place_text entry = before_first (is_byte 61) entry

-- the place between two events, where both are there
abbrev pub both_events : Option ℕ → Option ℕ → Option Key
both_events None target = None
both_events (Some source) None = None
both_events (Some source) (Some target) = Some (Between source target)

-- the place between the events of `u,v>`, the comma being 44
abbrev pub key_between : Declared → List ℕ → Option Key
key_between signals text =
    if last_byte text == 62
    then both_events (event_in signals (before_first (is_byte 44) text))
    (event_in signals (without_last (after_first (is_byte 44) text)))
    else None

-- the place that `<u,v>` or a name stands for
abbrev pub key_in : Declared → List ℕ → Option Key
key_in signals text =
    if first_byte text == 60 then key_between signals (drop 1 text) else Some (Named text)

-- a place with tokens
abbrev pub with_tokens : Place → ℕ → Place
with_tokens place tokens = record place { tokens = Some tokens }

-- a place that stands before and has no entry yet
abbrev pub is_unmarked : Places → Key → Bool
is_unmarked ps key = has_place ps key && not (is_some (place_at ps (number_of_place ps key)).tokens)

-- an entry for a place
abbrev pub mark_key : List ℕ → Key → ℕ → Places → Result Places AstgKind
mark_key entry key tokens ps =
    if is_unmarked ps key
    then Ok (with_place_at ps (number_of_place ps key)
    (with_tokens (place_at ps (number_of_place ps key)) tokens))
    else Err (BadMarking entry)

-- an entry, by the place and the tokens for which it stands
abbrev pub mark_by : List ℕ → Option Key → Option ℕ → Places → Result Places AstgKind
mark_by entry None tokens ps = Err (BadMarking entry)
mark_by entry (Some key) None ps = Err (BadMarking entry)
mark_by entry (Some key) (Some tokens) ps = mark_key entry key tokens ps

-- the places with an entry; an empty one, as stands before or behind a brace, is none
abbrev pub mark : Declared → List ℕ → Places → Result Places AstgKind
mark signals entry ps =
    if length entry == 0 then Ok ps
    else mark_by entry (key_in signals (place_text entry)) (tokens_of_entry entry) ps

-- the places with entries
abbrev pub mark_all : Declared → List (List ℕ) → Places → Result Places AstgKind
mark_all signals entries ps = all_of (mark signals) entries ps

-- the last word, empty where there is none
abbrev pub last_word : List (List ℕ) → List ℕ
last_word words = word_at words (length words - 1)

-- words without the brace at the end, where there is one
abbrev pub closed : List (List ℕ) → Option (List (List ℕ))
closed words =
    if last_byte (last_word words) == 125
    then Some (slice_set words (length words - 1) (without_last (last_word words)))
    else None

-- words without the braces at both ends, where these are there
abbrev pub entries_of : List (List ℕ) → Option (List (List ℕ))
entries_of words =
    if first_byte (word_at words 0) == 123
    then closed (slice_set words 0 (drop 1 (word_at words 0)))
    else None
