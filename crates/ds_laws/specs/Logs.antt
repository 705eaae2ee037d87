-- What a run prints with its log is replayed to its end.
use Rattle.std.specs.Prelude.{◌≡◌, ℕ, ◌*◌, ◌<◌, ◌≤◌, ◌^◌, Bool, true, List, ◌++◌, length}
use Rattle.std.specs.List.{flat_map, range_with_len}
use Rattle.std.specs.Prelude.{Ok, None, Some, false, codes}
use Rattle.ds_base.specs.Limit.{most_of}
use Rattle.ds_base.specs.Values.{Row}
use Rattle.ds_base.specs.declared.number.Limit.TheVariants.{Bytes}
use Rattle.ds_outside.specs.Held.{Held, bytes}
use Rattle.ds_lines.specs.Line.{lines_of}
use Rattle.ds_design.specs.Run.{IsRun}
use Rattle.ds_marked.specs.Graph.{IsLegal, counts_after}
use Rattle.ds_marked.specs.Progress.{HasFiredAll}
use Rattle.ds_latch.specs.Plan.{IsPlan, Planned}
use Rattle.ds_latch.specs.Headline.{BeginsWith, values_clocked}
use Rattle.ds_cmd.specs.declared.job.Job.{Job}
use Rattle.ds_cmd.specs.declared.job.Job.TheVariants.{Run, Replay}
use Rattle.ds_cmd.specs.declared.replay.ReplayJob.{ReplayJob}
use Rattle.ds_cmd.specs.declared.run.RunJob.{RunJob}
use Rattle.ds_rows.specs.Log.{fired_line, stored_text}
use Rattle.ds_rows.specs.Nets.{register_of}
use Rattle.ds_rows.specs.StateText.{IsStateText}
use Rattle.ds_replay.specs.Replay.{replay_of}
use Rattle.ds_replay.specs.Printed.{HasOwnWords}
use Rattle.ds_run.specs.RunText.{IsRunText}
use Rattle.ds_app.specs.Job.{stages_of}
use Rattle.ds_app.specs.Status.{AreTold}

-- a text is read and fired to the end of a legal list that has each event once a vector
pub record IsFiredWhole (p : Planned) (turns : ℕ) (text : List ℕ) : Type 0 where
  pub events : List ℕ
  pub legal : IsLegal p.graph turns events
  pub all : HasFiredAll p.graph turns (counts_after (λ _. 0) events)
  pub fires : replay_of p.graph turns (lines_of text) ≡ Ok events

-- the text of a run with its log is such a one
abbrev pub LoggedIsFired : Type 0
LoggedIsFired = (p : Planned) → HasOwnWords p.graph
    → (vectors : List Row) → length vectors < 10 ^ 10
    → (text : List ℕ) → IsRunText true p vectors text → IsFiredWhole p (length vectors) text

-- where a legal list has each event once a vector, the text of the state behind it has for each
-- register its clocked values, and says that there were all firings that there may be
abbrev pub WholeStatesAreClocked : Type 0
WholeStatesAreClocked = (p : Planned) → IsPlan p.split p.graph → (vectors : List Row)
    → (state nets : ℕ → Row) → IsRun p.split.circuit p.split.initial vectors state nets
    → (events : List ℕ) → IsLegal p.graph (length vectors) events
    → HasFiredAll p.graph (length vectors) (counts_after (λ _. 0) events)
    → (text : List ℕ) → IsStateText p vectors events text
    → text ≡ flat_map (λ r. stored_text (register_of p.split.circuit r)
    (values_clocked state (length vectors) r))
    (range_with_len 0 (length p.split.circuit.registers))
    ++ fired_line (length p.graph.events * length vectors) (length p.graph.events * length vectors)

-- the last line says that there were all firings that there may be
abbrev pub SaysAllFired : List ℕ → Type 0
SaysAllFired text = (before : List ℕ) × (all : ℕ) × (text ≡ before ++ fired_line all all)

-- a job has one text, which says that there were all firings that there may be
pub record ReplaysAll (held : List ℕ → Held) (job : Job) : Type 0 where
  pub text : List ℕ
  pub is_text : (stages_of held job).means text
  pub one : (other : List ℕ) → (stages_of held job).means other → other ≡ text
  pub says : SaysAllFired text

-- the bytes that are held are no more than a text may have that is read whole
abbrev pub IsShort : Held → Type 0
IsShort held = (text : List ℕ) → held ≡ bytes text → length text ≤ most_of Bytes

-- a run to its end, with its log
abbrev pub logged_run : RunJob → RunJob
logged_run job = record job { log = true; stop = None }

-- `replay` of the netlist, vectors, graph, groups, mode and slack of a run, by the log of a file
abbrev pub replay_after : RunJob → List ℕ → Bool → ReplayJob
replay_after job log transparent = record {
  net = job.net;
  vec = job.vec;
  log = log;
  graph = job.graph;
  clusters = job.clusters;
  groups = job.groups;
  slack = job.slack;
  transparent = transparent;
}

-- what `run --log` prints is read and fired to its end by `replay` of the same netlist, vectors,
-- graph, groups, mode and slack, where the log holds these bytes, and neither it nor the file of
-- the vectors is too long
abbrev pub PrintedIsReplayed : Type 0
PrintedIsReplayed = (held : List ℕ → Held) (job : RunJob) (log : List ℕ) (transparent : Bool)
    (printed : List ℕ) → AreTold held (Run (logged_run job))
    → (stages_of held (Run (logged_run job))).means printed
    → held log ≡ bytes printed → IsShort (held log) → IsShort (held job.vec)
    → ReplaysAll held (Replay (replay_after job log transparent))

-- a run that stops, with its log
abbrev pub stopped_run : RunJob → ℕ → RunJob
stopped_run job stop = record job { log = true; stop = Some stop }

-- a job has one text, which stands before a log
pub record ReplaysFront (held : List ℕ → Held) (job : Job) (printed : List ℕ) : Type 0 where
  pub text : List ℕ
  pub is_text : (stages_of held job).means text
  pub one : (other : List ℕ) → (stages_of held job).means other → other ≡ text
  pub log : List ℕ
  pub front : printed ≡ text ++ codes "firings\n" ++ log

-- what `run --stop --log` prints is read and fired to its end by `replay` of the same netlist,
-- vectors, graph, groups, mode and slack, where the log holds these bytes and is not too long; and
-- what that prints are the lines before the log, with what each register has stored
abbrev pub StoppedIsReplayed : Type 0
StoppedIsReplayed = (held : List ℕ → Held) (job : RunJob) (stop : ℕ) (log printed : List ℕ)
    → AreTold held (Run (stopped_run job stop))
    → (stages_of held (Run (stopped_run job stop))).means printed
    → held log ≡ bytes printed → IsShort (held log)
    → ReplaysFront held (Replay (replay_after job log false)) printed

-- behind any legal list, the text of the state has for each register the first of its clocked
-- values, and says how many firings there were
abbrev pub StatesAreClockedSoFar : Type 0
StatesAreClockedSoFar = (p : Planned) → IsPlan p.split p.graph → (vectors : List Row)
    → (state nets : ℕ → Row) → IsRun p.split.circuit p.split.initial vectors state nets
    → (events : List ℕ) → IsLegal p.graph (length vectors) events
    → (text : List ℕ) → IsStateText p vectors events text
    → (values : ℕ → Row)
    × ((r : ℕ) → r < length p.split.circuit.registers
    → BeginsWith (values_clocked state (length vectors) r) (values r))
    × (text ≡ flat_map (λ r. stored_text (register_of p.split.circuit r) (values r))
    (range_with_len 0 (length p.split.circuit.registers))
    ++ fired_line (length events) (length p.graph.events * length vectors))
