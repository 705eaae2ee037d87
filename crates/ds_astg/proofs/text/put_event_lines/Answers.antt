use Rattle.std.proofs.Common.{ap}
use Rattle.ds_outside.proofs.Pens.{with_put}
use Rattle.ds_astg.specs.Text.{event_line}
use Rattle.ds_astg.proofs.TextPieces.{one_more}
use Rattle.ds_astg.proofs.text.put_event_lines.Goals as goal

pub loop-event-preserved : goal.loop-event-preserved
loop-event-preserved g c = one_more (event_line c.args.graph.now) c.loop-event.event c.loop-event.invariant (with_put (ap (event_line c.args.graph.now) c.new.ensures) c.put_event_line.ensures)
