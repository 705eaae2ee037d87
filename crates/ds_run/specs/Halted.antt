-- The record of a plan's run that is stopped.
use Rattle.std.specs.Prelude.{ℕ, ◌*◌, ◌≤◌, List, length, Option, min}
use Rattle.ds_base.specs.Values.{Row}
use Rattle.ds_latch.specs.Plan.{IsPlan, Planned}
use Rattle.ds_fabric.specs.Showing.{Recorder}
use Rattle.ds_runner.specs.Stopped.{IsRunRecord}
use Rattle.ds_run.specs.RunOfPlan.{IsRunOf}
use Rattle.ds_run.specs.Finished.{IsRecordOf}

-- how often the events of a plan fire in all, where each fires once a vector
abbrev pub most_firings : Planned → List Row → ℕ
most_firings p vectors = length p.graph.events * length vectors

-- the record of a run of which each worker fires at most so many events: in all at least so many
-- have fired, or all that there are
pub record IsHalted (stop jobs : ℕ) (p : Planned) (vectors : List Row) (r : Recorder) :
    Type 0 where
  pub record_is : IsRecordOf p vectors r
  pub least : min stop (most_firings p vectors) ≤ r.many
  pub most : r.many ≤ min (jobs * stop) (most_firings p vectors)

-- the record of the run of a plan, in which each of so many workers has this quota, or none
pub record IsWorked (quota : Option ℕ) (jobs : ℕ) (p : Planned) (vectors : List Row)
    (r : Recorder) : Type 0 where
  pub accepted : IsPlan p.split p.graph
  pub planned : IsRunOf p vectors r.shown.view.run
  pub run : IsRunRecord quota jobs r.shown.view.run r
