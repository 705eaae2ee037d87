use Rattle.ds_runner.specs.FiringOrder.{CloseLater}
use Rattle.ds_runner.proofs.firing_order.close_later.Given as goal

abbrev pub invariant-loop-latch : goal.invariant-loop-latch
invariant-loop-latch g l = CloseLater l.latch l.places
