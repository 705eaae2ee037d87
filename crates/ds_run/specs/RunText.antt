-- The text of a run: its trace, and where a log is wanted its firings.
use Rattle.std.specs.Prelude.{◌≡◌, ℕ, Bool, true, false, List, ◌++◌, length, codes}
use Rattle.ds_base.specs.Values.{Row}
use Rattle.ds_marked.specs.Graph.{IsLegal, counts_after}
use Rattle.ds_design.specs.Trace.{IsTrace}
use Rattle.ds_marked.specs.Log.{IsLog}
use Rattle.ds_marked.specs.Progress.{HasFiredAll}
use Rattle.ds_latch.specs.Plan.{Planned}

-- the trace, the line `firings`, and the lines of a legal list that has each event once a vector
pub record IsLoggedTrace (p : Planned) (vectors : List Row) (text : List ℕ) : Type 0 where
  pub trace : List ℕ
  pub traced : IsTrace p.split.circuit vectors trace
  pub events : List ℕ
  pub legal : IsLegal p.graph (length vectors) events
  pub all : HasFiredAll p.graph (length vectors) (counts_after (λ _. 0) events)
  pub log : List ℕ
  pub logged : IsLog p.graph events log
  pub spelt : text ≡ trace ++ codes "firings\n" ++ log

-- the text of a run, with or without a log
abbrev pub IsRunText : Bool → Planned → List Row → List ℕ → Type 0
IsRunText false p vectors text = IsTrace p.split.circuit vectors text
IsRunText true p vectors text = IsLoggedTrace p vectors text
