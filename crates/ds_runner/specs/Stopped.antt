-- The record of a run that may stop before its end.
use Rattle.std.specs.Prelude.{◌≡◌, ℕ, ◌*◌, ◌≤◌, min, Option, None, Some}
use Rattle.ds_rule.specs.Run.{Run, events}
use Rattle.ds_rule.specs.Log.{Recorded}
use Rattle.ds_rule.specs.Rule.{tickets}
use Rattle.ds_fabric.specs.Showing.{Recorder}
use Rattle.ds_runner.specs.Whole.{IsWhole}

-- how many firings a run has that goes to its end
abbrev pub all_firings : Run → ℕ
all_firings run = events run * run.limit

-- the record of a run in which each worker stops after so many firings, and the caller once that
-- many or all have fired
pub record IsStopped (quota jobs : ℕ) (run : Run) (r : Recorder) : Type 0 where
  pub run_is : r.shown.view.run ≡ run
  pub recorded : Recorded run (tickets r.shown.view) r.many
  pub least : min quota (all_firings run) ≤ r.many
  pub most : r.many ≤ min (jobs * quota) (all_firings run)

-- the record of a run: without a quota of one that went to its end
abbrev pub IsRunRecord : Option ℕ → ℕ → Run → Recorder → Type 0
IsRunRecord None jobs run r = IsWhole run r
IsRunRecord (Some quota) jobs run r = IsStopped quota jobs run r
