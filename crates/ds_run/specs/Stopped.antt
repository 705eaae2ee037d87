-- The text of a stopped run: what each register has stored, how many events have fired, and where a
-- log is wanted the firings.
use Rattle.std.specs.Prelude.{◌≡◌, ℕ, ◌*◌, ◌≤◌, Bool, true, false, List, [], ◌++◌, length}
use Rattle.std.specs.Prelude.{Option, min}
use Rattle.ds_base.specs.Values.{Row}
use Rattle.ds_marked.specs.Graph.{Graph, IsLegal}
use Rattle.ds_latch.specs.Plan.{Planned}
use Rattle.ds_outside.specs.Written.{appended, AppendsPart}
use Rattle.ds_rows.specs.StateText.{IsStateText}
use Rattle.ds_run.specs.Logged.{IsLogText}

-- what stands behind the state: where a log is wanted that of these firings, else nothing
abbrev pub IsLogBehind : Bool → Graph → List ℕ → List ℕ → Type 0
IsLogBehind false g events text = text ≡ []
IsLogBehind true g events text = IsLogText g events text

-- the text of a stopped run
pub record IsStoppedText (log : Bool) (stop jobs : ℕ) (p : Planned) (vectors : List Row)
    (text : List ℕ) : Type 0 where
  pub events : List ℕ
  pub legal : IsLegal p.graph (length vectors) events
  pub least : min stop (length p.graph.events * length vectors) ≤ length events
  pub most : length events ≤ min (jobs * stop) (length p.graph.events * length vectors)
  pub state : List ℕ
  pub is_state : IsStateText p vectors events state
  pub behind : List ℕ
  pub is_behind : IsLogBehind log p.graph events behind
  pub spelt : text ≡ state ++ behind

-- the whole text was appended
abbrev pub AppendsStopped : Bool → ℕ → ℕ → Planned → List Row → Option (List ℕ)
    → Option (List ℕ) → Type 0
AppendsStopped log stop jobs p vectors old new =
    (text : List ℕ) × IsStoppedText log stop jobs p vectors text × (new ≡ appended old text)

-- a first part of it was appended
abbrev pub AppendsStoppedPart : Bool → ℕ → ℕ → Planned → List Row → Option (List ℕ)
    → Option (List ℕ) → Type 0
AppendsStoppedPart log stop jobs p vectors old new =
    (text : List ℕ) × IsStoppedText log stop jobs p vectors text × AppendsPart old new text
