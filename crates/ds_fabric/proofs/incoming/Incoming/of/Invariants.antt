use Rattle.ds_fabric.specs.Into.{AreIntoBelow}
use Rattle.ds_fabric.proofs.incoming.Incoming.of.Given as goal

abbrev pub invariant-loop-event : goal.invariant-loop-event
invariant-loop-event g l =
    AreIntoBelow l.fn.run l.event l.incoming.starts.items l.incoming.arcs.items l.incoming.numbers.items
