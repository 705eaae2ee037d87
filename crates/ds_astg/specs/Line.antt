-- What a line adds to what was read before it.
use Rattle.std.specs.Prelude.{ℕ, Bool, true, false, not, List, length, drop, codes}
use Rattle.std.specs.Prelude.{Option, None, Some, Result, Ok, Err, ◌==◌, ◌||◌, ◌&&◌, nat_lt}
use Rattle.std.specs.Prelude.{if◌then◌else◌}
use Rattle.std.specs.Str.{bytes_eq}
use Rattle.ds_lines.specs.Words.{word_at}
use Rattle.ds_base.specs.Limit.{most_of}
use Rattle.ds_base.specs.declared.number.Limit.TheVariants.{Signals as SignalsLimit}
use Rattle.ds_lines.specs.Names.{has_name}
use Rattle.ds_lines.specs.Line.{Line}
use Rattle.ds_astg.specs.Word.{first_byte, is_signal}
use Rattle.ds_astg.specs.Signals.{Declared, no_names, with_declared, role_of, may_have}
use Rattle.ds_astg.specs.Place.{Places, no_places, has_place}
use Rattle.ds_astg.specs.Place.Key.{Named}
use Rattle.ds_astg.specs.Turn.{then_do, all_of}
use Rattle.ds_astg.specs.Links.{graph_line}
use Rattle.ds_astg.specs.Marking.{entries_of, mark_all}
use Rattle.ds_astg.specs.declared.head.Head.{Head}
use Rattle.ds_astg.specs.declared.head.Head.TheVariants.{Body, Model, Signals, Dummies, Graph}
use Rattle.ds_astg.specs.declared.head.Head.TheVariants.{Marking, End, Unknown}
use Rattle.ds_astg.specs.declared.role.Role.{Role}
use Rattle.ds_astg.specs.declared.role.Role.TheVariants.{Signal, Dummy}
use Rattle.ds_astg.specs.declared.fault.AstgKind.{AstgKind}
use Rattle.ds_astg.specs.declared.fault.AstgKind.TheVariants.{Unsupported, BadWord, BadMarking}
use Rattle.ds_astg.specs.declared.fault.AstgKind.TheVariants.{TooMany}

-- is the model named; is the graph part open; is there a marking; the signals, and dummies among
-- them; the places
pub record State : Type 0 where
  pub is_named : Bool
  pub is_open : Bool
  pub is_marked : Bool
  pub signals : Declared
  pub places : Places

-- before all lines
abbrev pub start : State
start = record {
  is_named = false;
  is_open = false;
  is_marked = false;
  signals = no_names;
  places = no_places;
}

-- signals are declared by one of these
unfoldable pub is_declaration : List ℕ → Bool
is_declaration word = bytes_eq word (codes ".inputs")
    || (bytes_eq word (codes ".outputs") || bytes_eq word (codes ".internal"))

-- what a line with this first word is
unfoldable pub graph_head_of : List ℕ → Head
graph_head_of word =
    if not (first_byte word == 46) then Body
    else (if is_declaration word then Signals
    else (if bytes_eq word (codes ".dummy") then Dummies
    else (if bytes_eq word (codes ".model") then Model
    else (if bytes_eq word (codes ".graph") then Graph
    else (if bytes_eq word (codes ".marking") then Marking
    else (if bytes_eq word (codes ".end") then End
    else Unknown))))))

-- a name may be declared as such: it is one, no place has it, and it is nothing else
abbrev pub may_declare : Role → Places → List ℕ → Declared → Bool
may_declare role ps name signals = is_signal name
    && (not (has_place ps (Named name)) && may_have (role_of signals name) role)

-- the signals, with a name that is declared, before which these places stand
abbrev pub declare : Role → Places → List ℕ → Declared → Result Declared AstgKind
declare role ps name signals =
    if not (may_declare role ps name signals) then Err (BadWord name)
    else (if has_name signals.names name then Ok signals
    else (if nat_lt (length signals.names) (most_of SignalsLimit)
    then Ok (with_declared role name signals)
    else Err (TooMany SignalsLimit)))

-- the signals, with those that are declared
abbrev pub declare_all : Role → Places → List (List ℕ) → Declared → Result Declared AstgKind
declare_all role ps names signals = all_of (declare role ps) names signals

-- a line that names the model
abbrev pub model_line : List (List ℕ) → State → Result State AstgKind
model_line words state =
    if state.is_named || not (length words == 2) then Err (BadWord (word_at words 0))
    else Ok (record state { is_named = true; is_open = false })

-- with these signals, the graph part closed
abbrev pub with_signals : State → Declared → State
with_signals state signals = record state { is_open = false; signals = signals }

-- a line that declares names as such
abbrev pub declaration_line : Role → List (List ℕ) → State → Result State AstgKind
declaration_line role words state =
    then_do (declare_all role state.places (drop 1 words) state.signals)
    (λ signals. Ok (with_signals state signals))

-- with the graph part open
abbrev pub with_graph_open : State → State
with_graph_open state = record state { is_open = true }

-- with these places
abbrev pub with_places : State → Places → State
with_places state places = record state { places = places }

-- with these places and a marking, the graph part closed
abbrev pub with_marking : State → Places → State
with_marking state places = record state { is_open = false; is_marked = true; places = places }

-- a line of the graph part
abbrev pub body_line : ℕ → List (List ℕ) → State → Result State AstgKind
body_line line words state =
    if state.is_open
    then then_do (graph_line state.signals line words state.places)
    (λ places. Ok (with_places state places))
    else Err (BadWord (word_at words 0))

-- entries of the marking, where the braces are right
abbrev pub entries_line : List ℕ → Option (List (List ℕ)) → State → Result State AstgKind
entries_line word None state = Err (BadMarking word)
entries_line word (Some entries) state =
    then_do (mark_all state.signals entries state.places) (λ places. Ok (with_marking state places))

-- the marking, of which there is one
abbrev pub marking_line : List (List ℕ) → State → Result State AstgKind
marking_line words state =
    if state.is_marked then Err (BadMarking (word_at words 0))
    else entries_line (word_at words 0) (entries_of (drop 1 words)) state

-- what was read behind a line of a kind with a number, or the line's fault
abbrev pub step_by : Head → ℕ → List (List ℕ) → State → Result State AstgKind
step_by Body line words state = body_line line words state
step_by Model line words state = model_line words state
step_by Signals line words state = declaration_line Signal words state
step_by Dummies line words state = declaration_line Dummy words state
step_by Graph line words state = Ok (with_graph_open state)
step_by Marking line words state = marking_line words state
step_by End line words state = Ok state
step_by Unknown line words state = Err (Unsupported (word_at words 0))

-- what was read behind a line of a kind, or the line's fault
abbrev pub step_line : Head → Line → State → Result State AstgKind
step_line head line state = step_by head line.number line.words state

-- what was read behind a line, or the line's fault
abbrev pub step : Line → State → Result State AstgKind
step line state = step_line (graph_head_of (word_at line.words 0)) line state
