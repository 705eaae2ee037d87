use Rattle.std.proofs.Common.{◌≡◌, ◌+◌}
use Rattle.ds_runner.specs.FiringOrder.{StandsAt}
use Rattle.ds_runner.specs.Work.{Moved, all_tickets}
use Rattle.ds_runner.proofs.in_order.fire_turns.Given as goal

abbrev pub invariant-turns : goal.invariant-turns
invariant-turns g l = record {
  moved : Moved l.workload.memory l.fn.pass l.pass;
  stands : StandsAt l.workload.run l.pass.view l.order 0 l.turn;
  fired : all_tickets l.pass.view + l.caller.quota_left ≡ all_tickets l.fn.pass.view + l.fn.caller.quota_left;
}
