-- What the answers for one line say.
use Rattle.std.specs.Prelude.{◌≡◌, ℕ, List, None, Some, Result, Ok, Err}
use Rattle.ds_lines.specs.Words.{first_word}
use Rattle.ds_marked.specs.declared.blocked.Blocked.{Blocked}
use Rattle.ds_marked.specs.declared.blocked.Blocked.TheVariants as blocked
use Rattle.ds_fire.specs.Snapshot.{Snapshot, graph_of, limit_of, count_of}
use Rattle.ds_fire.specs.Fired.{IsFired}
use Rattle.ds_rows.specs.Texts.{event_by_text}
use Rattle.ds_replay.specs.Replay.{event_fault, fault_of_firing}
use Rattle.ds_base.specs.declared.refusal.Refusal.{Refusal}
use Rattle.ds_replay.specs.declared.fault.ReplayKind.{ReplayKind}
use Rattle.ds_replay.specs.declared.fault.ReplayKind.TheVariants.{OverLimit, NotEnabled}
use Rattle.ds_base.specs.declared.refusal.Refusal.TheVariants.{Memory, Fault}

-- the kind of what keeps an event from firing
abbrev pub kind_of : Blocked → ReplayKind
kind_of blocked.Limit = OverLimit
kind_of (blocked.Arc arc) = NotEnabled arc

-- an event has fired with this number, or this keeps it from doing so
abbrev pub FiresTo : Snapshot → ℕ → ℕ → Snapshot → Result (Unit {0}) ReplayKind → Type 0
FiresTo old v turn new (Ok done) =
    (event_fault (graph_of old) (limit_of old) (count_of old) v turn ≡ None) × IsFired old v new
FiresTo old v turn new (Err kind) = event_fault (graph_of old) (limit_of old) (count_of old) v turn
    ≡ Some kind

-- the event of a line has fired, or this is what is wrong with the line
abbrev pub StepsTo : Snapshot → List (List ℕ) → Snapshot → Result (Unit {0}) (Refusal ReplayKind)
    → Type 0
StepsTo old words new (Ok done) =
    (fault_of_firing (graph_of old) (limit_of old) (count_of old) words ≡ None)
    × IsFired old (event_by_text (graph_of old) (first_word words)) new
StepsTo old words new (Err Memory) = Unit {0}
StepsTo old words new (Err (Fault kind)) =
    fault_of_firing (graph_of old) (limit_of old) (count_of old) words ≡ Some kind
