use Rattle.std.proofs.Common.{sym}
use Rattle.ds_outside.proofs.Pens.{puts_on, with_put}
use Rattle.ds_astg.proofs.GraphTextCases.{one_signal_more}
use Rattle.ds_astg.proofs.signal_lines.put_signals.Goals as goal

pub loop-event-preserved : goal.loop-event-preserved
loop-event-preserved g c = with_put (sym (one_signal_more c.args.events.now c.loop-event.event-index c.event-item.result c.loop-event-test.true c.event-item.is)) (puts_on c.loop-event.invariant c.put_signal.ensures)
