use Rattle.std.proofs.Common.{◌≡◌, take, map}
use Rattle.ds_marked.specs.Log.{event_text}
use Rattle.ds_rows.proofs.texts.texts_of.Given as goal

abbrev pub invariant-loop-event : goal.invariant-loop-event
invariant-loop-event l = l.texts ≡ map event_text (take l.event-index l.events)
