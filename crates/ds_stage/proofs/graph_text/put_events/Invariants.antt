use Rattle.std.proofs.Common.{◌≡◌, ◌++◌, map, take}
use Rattle.ds_marked.specs.Log.{text_of_event}
use Rattle.ds_stage.specs.FaultText.{with_blanks}
use Rattle.ds_stage.proofs.graph_text.put_events.Given as goal

-- the events so far are there
abbrev pub invariant-loop-event : goal.invariant-loop-event
invariant-loop-event l = l.text.items ≡ l.initial.text.items ++ with_blanks (map (text_of_event l.graph) (take l.event-index l.events))
