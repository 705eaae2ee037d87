use Rattle.std.proofs.Common.{drop}
use Rattle.ds_cover.proofs.RemainingRuns.{IsLeft}
use Rattle.ds_cover.proofs.run.set_runs.Given as goal

abbrev pub invariant-loop-run : goal.invariant-loop-run
invariant-loop-run l = IsLeft l.bank l.order l.initial.nets l.nets l.runs (drop l.run-index l.runs)
