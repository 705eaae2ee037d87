use Rattle.ds_runner.specs.FiringOrder.{HavePlaces}
use Rattle.ds_runner.proofs.firing_order.have_places.Given as goal

abbrev pub invariant-loop-event : goal.invariant-loop-event
invariant-loop-event g l = HavePlaces l.event l.order l.places
