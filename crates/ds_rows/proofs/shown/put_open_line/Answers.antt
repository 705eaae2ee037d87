use Rattle.ds_outside.proofs.Pens.{puts_on}
use Rattle.ds_rows.proofs.shown.put_open_line.Goals as goal

pub returns : goal.returns
returns g c n is = (puts_on (puts_on (puts_on (c.put_node.ensures n is) c.put.ensures) c.put_values.ensures) c.put-2.ensures)
