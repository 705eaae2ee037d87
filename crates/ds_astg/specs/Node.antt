-- What a word of the graph part stands for.
use Rattle.std.specs.Prelude.{ℕ, ◌+◌, List, Option, None, Some, Result, Ok, Err}
use Rattle.std.specs.Prelude.{if◌then◌else◌}
use Rattle.ds_lines.specs.Names.{place_of_name}
use Rattle.ds_astg.specs.Word.{has_slash, has_reserved, is_signed, without_last, fall_of}
use Rattle.ds_astg.specs.Signals.{Declared, role_of, first_event}
use Rattle.ds_astg.specs.declared.role.Role.{Role}
use Rattle.ds_astg.specs.declared.role.Role.TheVariants.{Signal, Dummy}
use Rattle.ds_astg.specs.declared.fault.AstgKind.{AstgKind}
use Rattle.ds_astg.specs.declared.fault.AstgKind.TheVariants.{BadWord, Instance, UnknownSignal}

-- an event, by its number, or a place, by its name
pub data Node : Type 0 where
  Event : ℕ → Node
  Place : List ℕ → Node

-- the name in a word: what stands before its sign, where it has one
abbrev pub name_in : List ℕ → List ℕ
name_in word = if is_signed word then without_last word else word

-- the event for which a word stands, by what its name is declared as and the number of the name's
-- first event: a signal's word has a sign, a dummy's has none
abbrev pub event_by : Option Role → ℕ → List ℕ → Option ℕ
event_by None first word = None
event_by (Some Signal) first word = if is_signed word then Some (first + fall_of word) else None
event_by (Some Dummy) first word = if is_signed word then None else Some first

-- the number of the first event of a name
abbrev pub first_number : Declared → List ℕ → ℕ
first_number signals name = first_event signals.roles (place_of_name signals.names name)

-- the event for which a word stands, where there is one
abbrev pub event_in : Declared → List ℕ → Option ℕ
event_in signals word =
    event_by (role_of signals (name_in word)) (first_number signals (name_in word)) word

-- what a word stands for, by its event: without one it is a place, unless it has a sign
abbrev pub node_by : List ℕ → Option ℕ → Result Node AstgKind
node_by word None = if is_signed word then Err (UnknownSignal word) else Ok (Place word)
node_by word (Some event) = Ok (Event event)

-- what a word stands for, or its fault
abbrev pub node_of_word : Declared → List ℕ → Result Node AstgKind
node_of_word signals word =
    if has_slash word then Err (Instance word)
    else (if has_reserved word then Err (BadWord word)
    else node_by word (event_in signals word))
