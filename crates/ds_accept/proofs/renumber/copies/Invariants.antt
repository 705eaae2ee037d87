use Rattle.std.proofs.Common.{◌≡◌, take}
use Rattle.ds_accept.proofs.renumber.copies.Given as goal

abbrev pub invariant-loop-event : goal.invariant-loop-event
invariant-loop-event l = l.others ≡ take l.event-index l.events
