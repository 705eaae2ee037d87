use Rattle.std.proofs.Common.{◌∙◌}
use Rattle.ds_outside.proofs.Pens.{puts_on, with_put}
use Rattle.ds_stage.proofs.report.put_count.Goals as goal

pub returns : goal.returns
returns g c =
    puts_on (puts_on (puts_on c.put.ensures c.put-2.ensures)
    (with_put (c.as_bytes.ensures.value ∙ c.format.ensures.text) c.put-3.ensures)) c.put-4.ensures
