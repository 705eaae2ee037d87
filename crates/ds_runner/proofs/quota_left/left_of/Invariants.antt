use Rattle.std.proofs.Common.{◌≡◌, ◌-◌}
use Rattle.ds_runner.specs.Work.{tickets_below}
use Rattle.ds_runner.proofs.quota_left.left_of.Given as goal

abbrev pub invariant-events : goal.invariant-events
invariant-events g l = l.left ≡ l.fn.quota - tickets_below l.pass.view l.event
