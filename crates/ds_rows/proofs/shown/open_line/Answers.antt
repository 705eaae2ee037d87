use Rattle.std.proofs.Common.{rules}
use Rattle.ds_outside.proofs.Pens.{finished}
use Rattle.ds_rows.proofs.shown.open_line.Goals as goal

pub returns : goal.returns
returns g c n is =
    let done = finished c.new-pen.ensures.begun (c.put_open_line.ensures n is) c.finish.ensures in
    search rules
