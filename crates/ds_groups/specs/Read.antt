-- The groups that lines stand for, or the first fault of the lines. Registers are told by their
-- places among the names.
use Rattle.std.specs.Prelude.{ℕ, ◌+◌, Bool, not, List, [], ◌∷◌, length, map, replicate, ◌==◌}
use Rattle.std.specs.Prelude.{◌&&◌, if◌then◌else◌, slice_index_or, Result, Ok, Err}
use Rattle.std.specs.List.{list_any, filter, range_with_len}
use Rattle.std.specs.Str.{bytes_eq}
use Rattle.ds_lines.specs.First.{behind_line}
use Rattle.ds_lines.specs.Line.{Line}
use Rattle.ds_lines.specs.Names.{has_name}
use Rattle.ds_lines.specs.declared.at.At.{At}
use Rattle.ds_groups.specs.Match.{has_form}
use Rattle.ds_groups.specs.declared.fault.GroupKind.{GroupKind}
use Rattle.ds_groups.specs.declared.fault.GroupKind.TheVariants.{UnknownRegister, RepeatedRegister}

-- all registers
abbrev pub all_registers : List (List ℕ) → List ℕ
all_registers names = range_with_len 0 (length names)

-- the name of a register
abbrev pub register_name : List (List ℕ) → ℕ → List ℕ
register_name names r = slice_index_or names r []

-- a word means a register: where it is the name of some register, those of this name, else those
-- whose names it matches
abbrev pub means : List (List ℕ) → List ℕ → ℕ → Bool
means names word r =
    if has_name names word then bytes_eq word (register_name names r)
    else has_form word (register_name names r)

-- the line that has taken a register, counted from 1 among the lines; 0 where none has
abbrev pub holder : List ℕ → ℕ → ℕ
holder holders r = slice_index_or holders r 0

-- no word has taken the register
abbrev pub is_free : List ℕ → ℕ → Bool
is_free holders r = holder holders r == 0

-- a word takes a register: it means it, and no word has taken it before
abbrev pub takes : List (List ℕ) → List ℕ → List ℕ → ℕ → Bool
takes names holders word r = is_free holders r && means names word r

-- which line has each register, after a line's word
abbrev pub holders_after : List (List ℕ) → ℕ → List ℕ → List ℕ → List ℕ
holders_after names line holders word =
    map (λ r. if takes names holders word r then line else holder holders r) (all_registers names)

-- what a word takes, or what is wrong with it
abbrev pub after_word : List (List ℕ) → ℕ → List ℕ → List ℕ → Result (List ℕ) GroupKind
after_word names line holders word =
    if not (list_any (means names word) (all_registers names)) then Err (UnknownRegister word)
    else if not (list_any (takes names holders word) (all_registers names))
    then Err (RepeatedRegister word)
    else Ok (holders_after names line holders word)

-- what comes behind a word, unless the word has a fault
abbrev pub behind_word : {A B K : Type 0} → Result A K → (A → Result B K) → Result B K
behind_word (Ok read) rest = rest read
behind_word (Err kind) rest = Err kind

-- what the words of a line take, from left to right
abbrev pub after_words : List (List ℕ) → ℕ → List ℕ → List (List ℕ) → Result (List ℕ) GroupKind
after_words names line holders [] = Ok holders
after_words names line holders (word ∷ words) =
    behind_word (after_word names line holders word) (λ next. after_words names line next words)

-- what lines take, the first of them with this place
abbrev pub after_lines : List (List ℕ) → ℕ → List ℕ → List Line → Result (List ℕ) (At GroupKind)
after_lines names place holders [] = Ok holders
after_lines names place holders (line ∷ lines) =
    behind_line line.number (after_words names place holders line.words)
    (λ next. after_lines names (place + 1) next lines)

-- no register is taken
abbrev pub none_taken : List (List ℕ) → List ℕ
none_taken names = replicate (length names) 0

-- the registers that the line at a place has taken
abbrev pub line_group : List (List ℕ) → List ℕ → ℕ → List ℕ
line_group names holders place = filter (λ r. holder holders r == place) (all_registers names)

-- the registers of each of so many lines
abbrev pub groups_by : List (List ℕ) → ℕ → List ℕ → List (List ℕ)
groups_by names count holders = map (line_group names holders) (range_with_len 1 count)

-- the groups that lines stand for, or the first fault
abbrev pub groups_of : List (List ℕ) → List Line → Result (List (List ℕ)) (At GroupKind)
groups_of names lines =
    behind_word (after_lines names 1 (none_taken names) lines)
    (λ holders. Ok (groups_by names (length lines) holders))
