-- There are texts of runs, of stopped runs and of replayed logs.
use Rattle.std.specs.Prelude.{◌≡◌, ℕ, ◌≤◌, Bool, true, List, length, All}
use Rattle.ds_base.specs.Values.{Row}
use Rattle.ds_design.specs.Circuit.{columns}
use Rattle.ds_design.specs.InRange.{IsInRange}
use Rattle.ds_marked.specs.Graph.{Graph, IsLegal}
use Rattle.ds_marked.specs.Log.{IsLog}
use Rattle.ds_latch.specs.Plan.{IsPlan, Planned}
use Rattle.ds_rows.specs.StateText.{IsStateText}
use Rattle.ds_replay.specs.ReplayText.{IsReplayText}
use Rattle.ds_run.specs.RunText.{IsRunText}
use Rattle.ds_run.specs.Stopped.{IsStoppedText}

-- a legal list of firings has a log
abbrev pub LogsExist : Type 0
LogsExist = (g : Graph) (turns : ℕ) (events : List ℕ) → IsLegal g turns events
    → (log : List ℕ) × IsLog g events log

-- a plan for a design in range, and vectors as wide as its columns
pub record IsPlannedRun (p : Planned) (vectors : List Row) : Type 0 where
  pub accepted : IsPlan p.split p.graph
  pub in_range : IsInRange p.split.circuit
  pub wide : All (λ vector. length vector ≡ length (columns p.split.circuit)) vectors

-- a run has a text, with and without its log
abbrev pub RunTextsExist : Type 0
RunTextsExist = (p : Planned) (vectors : List Row) → IsPlannedRun p vectors → (log : Bool)
    → (text : List ℕ) × IsRunText log p vectors text

-- the state that a legal list leads to has a text
abbrev pub StateTextsExist : Type 0
StateTextsExist = (p : Planned) (vectors : List Row) → IsPlannedRun p vectors
    → (events : List ℕ) → IsLegal p.graph (length vectors) events
    → (text : List ℕ) × IsStateText p vectors events text

-- a run that stops has a text, wherever it stops
abbrev pub StoppedTextsExist : Type 0
StoppedTextsExist = (p : Planned) (vectors : List Row) → IsPlannedRun p vectors
    → (log : Bool) (stop jobs : ℕ) → 1 ≤ jobs
    → (text : List ℕ) × IsStoppedText log stop jobs p vectors text

-- a log that is replayed has a text; what open latches show is known where there is no slack
abbrev pub ReplayTextsExist : Type 0
ReplayTextsExist = (p : Planned) (vectors : List Row) → IsPlannedRun p vectors
    → (transparent : Bool) → (transparent ≡ true → p.split.slack ≡ 0)
    → (events : List ℕ) → IsLegal p.graph (length vectors) events
    → (text : List ℕ) × IsReplayText transparent p vectors events text
