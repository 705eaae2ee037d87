-- What a replay has to do with legal logs.
use Rattle.std.specs.Prelude.{◌≡◌, ◌≢◌, ◌↔◌, ◌⊎◌, ℕ, List, ◌∷◌, ◌++◌, map, length, Ok, Err, All}
use Rattle.std.specs.Prelude.{AllPairs, codes}
use Rattle.ds_lines.specs.Line.{Line}
use Rattle.ds_marked.specs.Graph.{Graph, counts_after}
use Rattle.ds_marked.specs.Blocked.{IsFirstLackingArc}
use Rattle.ds_marked.specs.declared.marked.Kind.TheVariants.{Dummy}
use Rattle.ds_marked.specs.Log.{event_text, IsLegalLogFrom, LineFault, bad_word, unknown_event}
use Rattle.ds_marked.specs.Log.{wrong_turn, over_limit, not_enabled}
use Rattle.ds_replay.specs.Replay.{log_of, replay_of}
use Rattle.ds_lines.specs.declared.at.At.{At}
use Rattle.ds_replay.specs.declared.fault.ReplayKind.{ReplayKind}
use Rattle.ds_replay.specs.declared.fault.ReplayKind.TheVariants.{BadWord, UnknownEvent, WrongTurn}
use Rattle.ds_replay.specs.declared.fault.ReplayKind.TheVariants.{OverLimit, NotEnabled}

-- no two events are written alike
abbrev pub HasOwnTexts : Graph → Type 0
HasOwnTexts g = AllPairs (λ a b. event_text a ≢ event_text b) g.events

-- a name ends in a sign
abbrev pub EndsInSign : List ℕ → Type 0
EndsInSign name = (front : List ℕ) × ((name ≡ front ++ codes "+") ⊎ (name ≡ front ++ codes "-"))

-- no dummy's name ends in a sign
abbrev pub HasPlainDummies : Graph → Type 0
HasPlainDummies g = All (λ e. e.kind ≡ Dummy → ¬ EndsInSign e.signal) g.events

-- the words of lines
abbrev pub words_of_lines : List Line → List (List (List ℕ))
words_of_lines lines = map (λ line. line.words) lines

-- lines are a legal log of these events, each at most so often
abbrev pub IsLegalLog : Graph → ℕ → List Line → List ℕ → Type 0
IsLegalLog g limit lines events = IsLegalLogFrom g limit (λ _. 0) (words_of_lines lines) events

-- the kind of a line's fault; where an event is not enabled, it names the least arc that lacks a
-- token
abbrev pub HasKind : {g : Graph} {limit : ℕ} {count : ℕ → ℕ} {words : List (List ℕ)}
    → LineFault g limit count words → ReplayKind → Type 0
HasKind (bad_word none) kind = kind ≡ BadWord
HasKind (unknown_event {name} {turn} number none) kind = kind ≡ UnknownEvent name
HasKind (wrong_turn v number event other) kind = kind ≡ WrongTurn
HasKind (over_limit v number event turn past) kind = kind ≡ OverLimit
HasKind {g} {limit} {count} (not_enabled v number event turn below not_ready) kind =
    (arc : ℕ) × (kind ≡ NotEnabled arc) × IsFirstLackingArc count v g.arcs arc

-- the fault is that of one of these lines, and the lines before it are a legal log
pub record IsFirstFault (g : Graph) (limit : ℕ) (lines : List Line)
    (fault : At ReplayKind) : Type 0 where
  pub before : List Line
  pub line : Line
  pub behind : List Line
  pub lines_are : lines ≡ before ++ line ∷ behind
  pub events : List ℕ
  pub legal : IsLegalLog g limit before events
  pub number : fault.line ≡ line.number
  pub why : LineFault g limit (counts_after (λ _. 0) events) line.words
  pub kind : HasKind why fault.kind

-- events with signs, and dummies whose names end in none, of which none is there twice, are
-- written each in its own way
abbrev pub EventsHaveOwnTexts : Type 0
EventsHaveOwnTexts = (g : Graph) → AllPairs (λ a b. a ≢ b) g.events → HasPlainDummies g
    → HasOwnTexts g

-- a log fires events exactly where the lines that are read are a legal log of them
abbrev pub FiresLegalLogs : Type 0
FiresLegalLogs = (g : Graph) → HasOwnTexts g → (limit : ℕ) (lines : List Line) (events : List ℕ)
    → (replay_of g limit lines ≡ Ok events) ↔ IsLegalLog g limit (log_of lines) events

-- each line that is read is a firing
abbrev pub FiresEachLine : Type 0
FiresEachLine = (g : Graph) (limit : ℕ) (lines : List Line) (events : List ℕ)
    → replay_of g limit lines ≡ Ok events → length events ≡ length (log_of lines)

-- a fault is the first one of the lines that are read
abbrev pub RefusesFirstFaults : Type 0
RefusesFirstFaults = (g : Graph) (limit : ℕ) (lines : List Line) (fault : At ReplayKind)
    → replay_of g limit lines ≡ Err fault → IsFirstFault g limit (log_of lines) fault
