use Rattle.std.proofs.Common.{◌∙◌}
use Rattle.ds_outside.proofs.Pens.{puts_on, with_put}
use Rattle.ds_app.proofs.list_clusters.put_latches.Goals as goal

pub returns : goal.returns
returns g c =
    let number = c.as_bytes-number.ensures.value ∙ c.format.ensures.text in
    puts_on (puts_on (puts_on c.put.ensures (with_put number c.put-2.ensures)) c.put-3.ensures) (with_put number c.put-4.ensures)
