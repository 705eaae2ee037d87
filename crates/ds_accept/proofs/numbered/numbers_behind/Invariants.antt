use Rattle.ds_accept.proofs.EventNumbering.{AreNumberedTo}
use Rattle.ds_accept.proofs.numbered.numbers_behind.Given as goal

abbrev pub invariant-loop-event : goal.invariant-loop-event
invariant-loop-event l = AreNumberedTo l.known l.graph l.events l.event-index l.numbers.items
