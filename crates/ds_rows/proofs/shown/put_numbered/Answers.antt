use Rattle.std.proofs.Common.{◌∙◌}
use Rattle.ds_outside.proofs.Pens.{puts_on, with_put}
use Rattle.ds_rows.proofs.shown.put_numbered.Goals as goal

pub returns : goal.returns
returns g c = puts_on c.put.ensures (with_put (c.as_bytes.ensures.value ∙ c.format.ensures.text) c.put-2.ensures)
