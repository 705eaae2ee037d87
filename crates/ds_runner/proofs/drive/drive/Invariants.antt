use Rattle.std.proofs.Common.{◌≤◌, ◌+◌}
use Rattle.ds_runner.specs.Work.{IsWorker}
use Rattle.ds_runner.proofs.drive.drive.Given as goal

abbrev pub invariant-visits : goal.invariant-visits
invariant-visits g l = IsWorker l.workload l.scheduler.stile l.worker × (l.worker.turn.view.made + l.left.firings ≤ l.fn.budget.firings)

abbrev pub decreases-visits : goal.decreases-visits
decreases-visits g l = l.left.takes + l.left.looks
