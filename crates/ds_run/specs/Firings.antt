-- What follows of the firings of a run.
use Rattle.std.specs.Prelude.{◌≡◌, ℕ, List, length}
use Rattle.ds_base.specs.Values.{Row}
use Rattle.ds_marked.specs.Graph.{IsLegal, counts_after}
use Rattle.ds_marked.specs.Progress.{HasFiredAll}
use Rattle.ds_latch.specs.Plan.{IsPlan, Planned}
use Rattle.ds_rule.specs.Rule.{tickets}
use Rattle.ds_fabric.specs.Showing.{IsFiredInOrder, Recorder}
use Rattle.ds_runner.specs.Whole.{IsWhole}
use Rattle.ds_run.specs.RunOfPlan.{IsRunOf}
use Rattle.ds_run.specs.Finished.{IsRecordOf}

-- the firings of a record, first one first, are a legal list of the plan's graph, and as many as
-- the record counts
abbrev pub RecordsAreLegal : Type 0
RecordsAreLegal = (p : Planned) (vectors : List Row) (r : Recorder) → IsRecordOf p vectors r
    → (items : List ℕ) → IsFiredInOrder r.shown.view.run (tickets r.shown.view) items
    → IsLegal p.graph (length vectors) items × (length items ≡ r.many)

-- the firings of a run that went to its end, first one first, are a legal list of the plan's graph
-- that has each event once a vector
abbrev pub FiringsAreLegal : Type 0
FiringsAreLegal = (p : Planned) (vectors : List Row) (r : Recorder)
    → IsPlan p.split p.graph → IsRunOf p vectors r.shown.view.run → IsWhole r.shown.view.run r
    → (items : List ℕ) → IsFiredInOrder r.shown.view.run (tickets r.shown.view) items
    → IsLegal p.graph (length vectors) items
    × HasFiredAll p.graph (length vectors) (counts_after (λ _. 0) items)
