use Rattle.std.proofs.Common.{◌≡◌, ◌+◌}
use Rattle.ds_runner.specs.Work.{Moved, left, all_tickets}
use Rattle.ds_runner.proofs.complete.fire_rounds.Given as goal

abbrev pub invariant-rounds : goal.invariant-rounds
invariant-rounds g l = Moved l.workload.memory l.fn.pass l.pass
    × (all_tickets l.pass.view + l.own.quota_left ≡ all_tickets l.fn.pass.view + l.fn.caller.quota_left)

abbrev pub decreases-rounds : goal.decreases-rounds
decreases-rounds g l = left l.workload.run l.pass.view
