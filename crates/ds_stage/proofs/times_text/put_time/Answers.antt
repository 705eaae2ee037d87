use Rattle.std.proofs.Common.{◌∙◌}
use Rattle.ds_outside.proofs.Pens.{puts_on, with_put}
use Rattle.ds_stage.proofs.times_text.put_time.Goals as goal

pub returns : goal.returns
returns g c =
    let event = with_put c.event_text-text.ensures (puts_on c.put.ensures c.put-2.ensures) in
    let turn = puts_on (puts_on event c.put-3.ensures) (with_put (c.as_bytes.ensures.value ∙ c.format.ensures.text) c.put-4.ensures) in
    puts_on (puts_on (puts_on turn c.put-5.ensures) (with_put (c.as_bytes-2.ensures.value ∙ c.format-2.ensures.text) c.put-6.ensures)) c.put-7.ensures
