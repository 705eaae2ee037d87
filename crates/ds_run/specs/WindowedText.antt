-- The text of a run that is written window by window, and its end.
use Rattle.std.specs.Prelude.{◌≡◌, ℕ, ◌+◌, ◌<◌, ⊤, List, [], ◌∷◌, ◌++◌, length, Option, None}
use Rattle.std.specs.Prelude.{All, Bool, Result, Some}
use Rattle.ds_base.specs.Values.{Row}
use Rattle.ds_marked.specs.Graph.{Graph}
use Rattle.ds_design.specs.Circuit.{Circuit}
use Rattle.ds_design.specs.Trace.{AreLines, end_line}
use Rattle.ds_outside.specs.Writes.{Writes}
use Rattle.ds_run.specs.Logged.{IsLogOf, IsLogText, Listed}

-- the log is that of some number of turns, or there is none
abbrev pub IsSomeLog : Graph → Option Listed → Type 0
IsSomeLog g log = (wanted : Bool) × (turns : ℕ) × IsLogOf wanted g turns log

-- each firing of a log, where there is one, is of an event of the graph, and each event has a count
abbrev pub IsKnownLog : Graph → Option Listed → Type 0
IsKnownLog g None = ⊤
IsKnownLog g (Some log) =
    All (λ event. event < length g.events) log.events × (log.kinds ≡ length g.events)

-- what stands behind the trace: the text of a log where there is one
abbrev pub IsLogPart : Graph → Option Listed → List ℕ → Type 0
IsLogPart g None text = text ≡ []
IsLogPart g (Some log) text = IsLogText g log.events text

-- the end of a run: the line of the last registers, and what stands behind the trace
abbrev pub IsRunEnd : Graph → Option Listed → Row → List ℕ → Type 0
IsRunEnd g log last text =
    (rest : List ℕ) × IsLogPart g log rest × (text ≡ end_line last ++ rest)

-- the end was written whole; or a first part of it, and a write failed
abbrev pub WritesEnd : {T E : Type 0} → Result T E → Graph → Option Listed → Row
    → Option (List ℕ) → Option (List ℕ) → ℕ → ℕ → Type 0
WritesEnd result g log last old new before now =
    (text : List ℕ) × IsRunEnd g log last text × Writes result old new before now text

-- the vectors of a window, and its lines
pub record WrittenWindow : Type 0 where
  pub vectors : List Row
  pub lines : List ℕ

-- the lines of windows, one after another: each goes on with the turn and the registers with which
-- the one before ends
abbrev pub AreWindows : Circuit → ℕ → Row → List WrittenWindow → Row → Type 0
AreWindows c first start [] last = last ≡ start
AreWindows c first start (w ∷ windows) last =
    (middle : Row) × AreLines c first start w.vectors w.lines middle
    × AreWindows c (first + length w.vectors) middle windows last
