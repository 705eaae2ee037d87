use Rattle.std.proofs.Common.{◌≡◌, map, take}
use Rattle.ds_accept.specs.Codes.{event_code}
use Rattle.ds_accept.proofs.numbers.Numbers.of.Given as goal

abbrev pub invariant-loop-event : goal.invariant-loop-event
invariant-loop-event l = l.numbers ≡ map event_code (take l.event-index l.events)
