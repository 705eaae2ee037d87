use Rattle.std.proofs.Common.{drop}
use Rattle.ds_cover.proofs.RemainingRuns.{IsLeftKnown}
use Rattle.ds_cover.proofs.run.set_known_runs.Given as goal

abbrev pub invariant-loop-run : goal.invariant-loop-run
invariant-loop-run l = IsLeftKnown l.bank l.order l.initial.nets l.nets l.runs (drop l.run-index l.runs)
