use Rattle.ds_outside.proofs.Pens.{puts_on}
use Rattle.ds_rows.proofs.trace.put_end_line.Goals as goal

pub returns : goal.returns
returns g c = (puts_on (puts_on c.put.ensures c.put_values.ensures) c.put-2.ensures)
