use Rattle.std.proofs.Common.{◌∙◌}
use Rattle.ds_outside.proofs.Pens.{puts_on, with_put}
use Rattle.ds_rows.proofs.log.put_fired.Goals as goal

pub returns : goal.returns
returns g c =
    puts_on (puts_on (puts_on (puts_on c.put.ensures (with_put (c.as_bytes.ensures.value ∙ c.format.ensures.text) c.put-2.ensures)) c.put-3.ensures)
    (with_put (c.as_bytes-2.ensures.value ∙ c.format-2.ensures.text) c.put-4.ensures)) c.put-5.ensures
