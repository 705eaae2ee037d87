use Rattle.std.proofs.Common.{rules}
use Rattle.ds_outside.proofs.Pens.{finished}
use Rattle.ds_app.proofs.times_text.write_turns.Goals as goal

pub returns : goal.returns
returns g c time schedule =
    let done = finished c.new-pen.ensures.begun (c.put_turns.ensures.lines time schedule) c.finish.ensures in
    search rules
