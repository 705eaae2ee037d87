-- The log of a job that is fired, and what is kept and written of it.
use Rattle.std.specs.Prelude.{◌≡◌, ℕ, List, [], ◌++◌, length, codes, slice_get}
use Rattle.std.specs.Prelude.{Ok, Err, Bool}
use Rattle.std.specs.Option.{option_map_or}
use Rattle.ds_base.specs.Values.{Row}
use Rattle.ds_outside.specs.Held.{Held}
use Rattle.ds_outside.specs.declared.files.Which.TheVariants.{Log}
use Rattle.ds_lines.specs.Line.{Line}
use Rattle.ds_marked.specs.Graph.{Graph}
use Rattle.ds_marked.specs.declared.marked.Arc.{Arc}
use Rattle.ds_latch.specs.Plan.{Planned}
use Rattle.ds_marked.specs.Log.{text_of_event}
use Rattle.ds_fire.specs.Snapshot.{Snapshot}
use Rattle.ds_replay.specs.Replay.{replay_of}
use Rattle.ds_lines.specs.declared.at.At.{At}
use Rattle.ds_replay.specs.declared.fault.ReplayKind.{ReplayKind}
use Rattle.ds_replay.specs.declared.fault.ReplayKind.TheVariants.{BadWord, UnknownEvent, WrongTurn}
use Rattle.ds_replay.specs.declared.fault.ReplayKind.TheVariants.{OverLimit, NotEnabled}
use Rattle.ds_stage.specs.FaultText.{numbered_line}
use Rattle.ds_replay.specs.ReplayText.{IsReplayText}
use Rattle.ds_replay.specs.Kept.{IsAfterLog}
use Rattle.ds_stage.specs.Stage.{Stage, giving, judging, then_stage}
use Rattle.ds_stage.specs.Stages.{lines_stage}

-- the ends of an arc
abbrev pub ends_text : Graph → Arc → List ℕ
ends_text g arc = text_of_event g arc.source ++ codes " to " ++ text_of_event g arc.target

-- the fault of a line of a log
abbrev pub log_text : Graph → ReplayKind → List ℕ
log_text g BadWord = codes "bad word"
log_text g (UnknownEvent word) = codes "unknown event " ++ word
log_text g WrongTurn = codes "wrong turn"
log_text g OverLimit = codes "over limit"
log_text g (NotEnabled arc) = codes "not enabled: "
    ++ option_map_or (ends_text g) (slice_get g.arcs arc) []

-- the events that the lines of a log fire one after another, or the line of their first fault
abbrev pub fired_stage : List ℕ → Planned → List Row → List Line → Stage (List ℕ)
fired_stage file planned vectors lines = judging
    (λ events. replay_of planned.graph (length vectors) lines ≡ Ok events)
    (λ line. (fault : At ReplayKind)
    × (replay_of planned.graph (length vectors) lines ≡ Err fault)
    × (line ≡ numbered_line file fault.line (log_text planned.graph fault.kind)))

-- the events that the log of a file fires
abbrev pub log_stage : (List ℕ → Held) → List ℕ → Planned → List Row → Stage (List ℕ)
log_stage held log planned vectors =
    then_stage (lines_stage held Log log) (fired_stage log planned vectors)

-- the text of a log, once its plan is made and its vectors are read
abbrev pub replayed_stage : (List ℕ → Held) → List ℕ → Bool → Planned → List Row
    → Stage (List ℕ)
replayed_stage held log transparent planned vectors =
    then_stage (log_stage held log planned vectors)
    (λ events. giving (IsReplayText transparent planned vectors events))

-- what is kept of a log that fires these events
abbrev pub kept_after : Planned → List Row → List ℕ → Stage (Snapshot × ℕ)
kept_after planned vectors events =
    giving (λ after. IsAfterLog planned vectors events after.0 after.1)

-- what is kept of the log of a file
abbrev pub kept_stage : (List ℕ → Held) → List ℕ → Planned → List Row → Stage (Snapshot × ℕ)
kept_stage held log planned vectors =
    then_stage (log_stage held log planned vectors) (kept_after planned vectors)
