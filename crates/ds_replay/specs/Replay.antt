-- Which events the lines of a log fire, or the first fault of the lines.
use Rattle.std.specs.Prelude.{ℕ, ◌+◌, Bool, not, List, [], ◌∷◌, length, drop, codes, Option, None}
use Rattle.std.specs.Prelude.{Some, Result, Ok, Err, nat_lt, ◌==◌, ◌&&◌, if◌then◌else◌}
use Rattle.std.specs.List.{position_or_len}
use Rattle.std.specs.Str.{bytes_eq}
use Rattle.std.specs.Str.Parse.{digits_value}
use Rattle.ds_lines.specs.First.{where_true, first_of}
use Rattle.ds_lines.specs.Words.{first_word}
use Rattle.ds_lines.specs.Line.{Line}
use Rattle.ds_marked.specs.Graph.{Graph, counted}
use Rattle.ds_marked.specs.declared.marked.Arc.{Arc}
use Rattle.ds_rows.specs.Texts.{event_by_text}
use Rattle.ds_replay.specs.Word.{second_word, is_firing}
use Rattle.ds_lines.specs.declared.at.At.{At}
use Rattle.ds_replay.specs.declared.fault.ReplayKind.{ReplayKind}
use Rattle.ds_replay.specs.declared.fault.ReplayKind.TheVariants.{BadWord, UnknownEvent, WrongTurn}
use Rattle.ds_replay.specs.declared.fault.ReplayKind.TheVariants.{OverLimit, NotEnabled}

-- an arc into an event lacks a token
abbrev pub lacks_token : (ℕ → ℕ) → ℕ → Arc → Bool
lacks_token count v arc = (arc.target == v) && nat_lt (count arc.source + arc.tokens) (count v + 1)

-- the least arc into an event that lacks a token; past the arcs where none does
abbrev pub least_lacking : Graph → (ℕ → ℕ) → ℕ → ℕ
least_lacking g count v = position_or_len (lacks_token count v) g.arcs

-- what keeps an event from firing with this number, at these counts
abbrev pub event_fault : Graph → ℕ → (ℕ → ℕ) → ℕ → ℕ → Option ReplayKind
event_fault g limit count v turn = first_of (
    where_true (not (turn == (count v + 1))) WrongTurn
    ∷ where_true (not (nat_lt (count v) limit)) OverLimit
    ∷ where_true (nat_lt (least_lacking g count v) (length g.arcs))
    (NotEnabled (least_lacking g count v))
    ∷ [])

-- what is wrong with a line's words, at these counts
abbrev pub fault_of_firing : Graph → ℕ → (ℕ → ℕ) → List (List ℕ) → Option ReplayKind
fault_of_firing g limit count words = first_of (
    where_true (not (is_firing words)) BadWord
    ∷ where_true (not (nat_lt (event_by_text g (first_word words)) (length g.events)))
    (UnknownEvent (first_word words))
    ∷ event_fault g limit count (event_by_text g (first_word words))
    (digits_value 10 (second_word words))
    ∷ [])

-- a fault of the line of this number, else what the lines behind it give
abbrev pub log_fault_or : Option ReplayKind → ℕ → Result (List ℕ) (At ReplayKind)
    → Result (List ℕ) (At ReplayKind)
log_fault_or None number rest = rest
log_fault_or (Some kind) number rest = Err (record { line = number; kind = kind })

-- an event, and then others
abbrev pub with_first : ℕ → Result (List ℕ) (At ReplayKind) → Result (List ℕ) (At ReplayKind)
with_first v (Ok events) = Ok (v ∷ events)
with_first v (Err fault) = Err fault

-- the events that lines fire one after another from these counts on, or the first fault
abbrev pub replay_from : Graph → ℕ → (ℕ → ℕ) → List Line → Result (List ℕ) (At ReplayKind)
replay_from g limit count [] = Ok []
replay_from g limit count (line ∷ lines) = log_fault_or (fault_of_firing g limit count line.words)
    line.number
    (with_first (event_by_text g (first_word line.words))
    (replay_from g limit (counted (event_by_text g (first_word line.words)) count) lines))

-- the one word `firings`
abbrev pub is_firings : Line → Bool
is_firings line = (length line.words == 1) && bytes_eq (first_word line.words) (codes "firings")

-- the place behind the first such line; the first place where there is none
abbrev pub start_of : List Line → ℕ
start_of lines = if nat_lt (position_or_len is_firings lines) (length lines) then
    (position_or_len is_firings lines + 1)
    else 0

-- the lines of a log that are read
abbrev pub log_of : List Line → List Line
log_of lines = drop (start_of lines) lines

-- the events that a log fires, each at most so often, or its first fault
abbrev pub replay_of : Graph → ℕ → List Line → Result (List ℕ) (At ReplayKind)
replay_of g limit lines = replay_from g limit (λ _. 0) (log_of lines)
