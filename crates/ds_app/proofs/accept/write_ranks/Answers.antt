use Rattle.std.proofs.Common.{rules}
use Rattle.ds_outside.proofs.Pens.{finished, puts_on}
use Rattle.ds_app.proofs.accept.write_ranks.Goals as goal

pub returns : goal.returns
returns g c =
    let done = finished c.new-pen.ensures.begun (puts_on c.put.ensures c.put_ranks.ensures) c.finish.ensures in
    search rules
