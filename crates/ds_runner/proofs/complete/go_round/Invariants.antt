use Rattle.std.proofs.Common.{◌≡◌, ◌<◌, ◌≤◌, ◌+◌}
use Rattle.ds_runner.specs.Work.{Moved, AdvancesBelow, left, all_tickets}
use Rattle.ds_runner.proofs.complete.go_round.Given as goal

abbrev pub invariant-nodes : goal.invariant-nodes
invariant-nodes g l = Moved l.workload.memory l.fn.pass l.pass × AdvancesBelow l.workload.run l.fn.pass.view l.node l.pass.view l.busy
    × (left l.workload.run l.pass.view ≤ left l.workload.run l.fn.pass.view)
    × (all_tickets l.pass.view + l.caller.quota_left ≡ all_tickets l.fn.pass.view + l.fn.caller.quota_left) × (0 < l.caller.quota_left)
