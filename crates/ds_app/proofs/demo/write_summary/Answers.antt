use Rattle.std.proofs.Common.{rules}
use Rattle.ds_outside.proofs.Pens.{finished, puts_on}
use Rattle.ds_app.proofs.demo.write_summary.Goals as goal

pub returns : goal.returns
returns g c =
    let done = finished c.new-pen.ensures.begun (puts_on (puts_on (puts_on c.put_count.ensures
    c.put_count-2.ensures) c.put_count-3.ensures) c.put_count-4.ensures) c.finish.ensures in
    search rules
