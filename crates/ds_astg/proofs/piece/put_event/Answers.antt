use Rattle.ds_outside.proofs.Pens.{puts_on, with_put}
use Rattle.ds_astg.proofs.piece.put_event.Goals as goal

pub returns : goal.returns
returns g c = with_put c.text-text.ensures (puts_on c.put.ensures c.put-2.ensures)
