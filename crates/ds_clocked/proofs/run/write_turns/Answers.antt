use Rattle.std.proofs.Common.{rules}
use Rattle.ds_outside.proofs.Pens.{finished}
use Rattle.ds_clocked.proofs.run.write_turns.Goals as goal

pub returns : goal.returns
returns g c =
    let (lines, are, puts) = c.put_turns.ensures in
    let done = finished c.new-pen.ensures.begun puts c.finish.ensures in
    (lines, are, search rules)
