use Rattle.std.proofs.Common.{ap}
use Rattle.ds_outside.proofs.Pens.{puts_on, with_put}
use Rattle.ds_astg.specs.Text.{signal_lines}
use Rattle.ds_astg.proofs.text.put_graph.Goals as goal

pub returns : goal.returns
returns g c =
    (puts_on (puts_on (puts_on (puts_on (puts_on (puts_on (puts_on (puts_on (puts_on c.put.ensures c.put-2.ensures) c.put-3.ensures)
    (with_put (ap (signal_lines c.args.own) c.events.ensures.events) c.put_signal_lines.ensures)) c.put-4.ensures) c.put_event_lines.ensures) c.put_place_lines.ensures) c.put-5.ensures)
    c.put_entries.ensures) c.put-6.ensures)
