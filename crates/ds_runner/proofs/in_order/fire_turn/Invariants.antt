use Rattle.std.proofs.Common.{◌≡◌, ◌+◌}
use Rattle.ds_runner.specs.FiringOrder.{StandsAt}
use Rattle.ds_runner.specs.Work.{Moved, all_tickets}
use Rattle.ds_runner.proofs.in_order.fire_turn.Given as goal

abbrev pub invariant-events : goal.invariant-events
invariant-events g l = record {
  moved : Moved l.workload.memory l.fn.pass l.pass;
  stands : StandsAt l.workload.run l.pass.view l.order l.i l.turn;
  fired : all_tickets l.pass.view + l.caller.quota_left ≡ all_tickets l.fn.pass.view + l.fn.caller.quota_left;
}
