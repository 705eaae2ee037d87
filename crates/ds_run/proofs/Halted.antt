-- What workers left of a plan's run, with a quota or without one.
use Rattle.std.proofs.Common.{◌≡◌, ◌∙◌, ℕ, ◌*◌, ◌≤◌, List, length, Option, None, Some, ap, sym, subst}
use Rattle.std.specs.Prelude.{min}
use Rattle.ds_base.specs.Values.{Row}
use Rattle.ds_latch.specs.Plan.{IsPlan, Planned}
use Rattle.ds_rule.specs.Run.{Run}
use Rattle.ds_rule.proofs.EventLaws.{events-is}
use Rattle.ds_fabric.specs.Showing.{Recorder}
use Rattle.ds_runner.specs.Stopped.{IsRunRecord, all_firings}
use Rattle.ds_run.specs.Halted.{IsHalted, IsWorked, most_firings}
use Rattle.ds_run.specs.RunOfPlan.{IsRunOf}
use Rattle.ds_run.specs.Finished.{IsFinished}

-- the run that is recorded is the one that was begun
run_recorded : (quota : Option ℕ) (jobs : ℕ) (run : Run) (r : Recorder) → IsRunRecord quota jobs run r
    → r.shown.view.run ≡ run
run_recorded None jobs run r is = is.run_is
run_recorded (Some quota) jobs run r is = is.run_is

pub worked : (p : Planned) (vectors : List Row) (quota : Option ℕ) (jobs : ℕ) (run : Run)
    (r : Recorder) → IsPlan p.split p.graph → IsRunOf p vectors run → IsRunRecord quota jobs run r
    → IsWorked quota jobs p vectors r
worked p vectors quota jobs run r plan is ran =
    let same : run ≡ r.shown.view.run = sym (run_recorded quota jobs run r ran) in
    record {
      accepted = plan;
      planned = subst (λ (x : Run). IsRunOf p vectors x) same is;
      run = subst (λ (x : Run). IsRunRecord quota jobs x r) same ran;
    }

-- without a quota it went to its end
pub played_worked : (p : Planned) (vectors : List Row) (jobs : ℕ) (r : Recorder)
    → IsWorked None jobs p vectors r → IsFinished p vectors r
played_worked p vectors jobs r is = record {
  accepted = is.accepted;
  planned = is.planned;
  whole = is.run;
}

-- as many firings as the run has, the plan has
firings_are : (p : Planned) (vectors : List Row) (run : Run) → IsRunOf p vectors run
    → all_firings run ≡ most_firings p vectors
firings_are p vectors run is =
    ap (λ (n : ℕ). n * run.limit) (events-is run ∙ is.nodes_are)
    ∙ ap (λ (n : ℕ). length p.graph.events * n) is.limit_is

-- with a quota it was stopped
pub halted_worked : (p : Planned) (vectors : List Row) (stop jobs : ℕ) (r : Recorder)
    → IsWorked (Some stop) jobs p vectors r → IsHalted stop jobs p vectors r
halted_worked p vectors stop jobs r is =
    let all : all_firings r.shown.view.run ≡ most_firings p vectors =
    firings_are p vectors r.shown.view.run is.planned in
    record {
      record_is = record {
        accepted = is.accepted;
        planned = is.planned;
        recorded = is.run.recorded;
      };
      least = subst (λ (n : ℕ). min stop n ≤ r.many) all is.run.least;
      most = subst (λ (n : ℕ). r.many ≤ min (jobs * stop) n) all is.run.most;
    }
