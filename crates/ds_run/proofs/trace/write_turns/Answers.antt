use Rattle.std.proofs.Common.{rules}
use Rattle.ds_outside.proofs.Pens.{finished}
use Rattle.ds_run.proofs.trace.write_turns.Goals as goal

pub returns : goal.returns
returns g c = λ vectors is.
    let (lines, are, puts) = c.put_turns.ensures vectors is in
    let done = finished c.new-pen.ensures.begun puts c.finish.ensures in
    (lines, are, search rules)
