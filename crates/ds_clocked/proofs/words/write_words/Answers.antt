use Rattle.std.proofs.Common.{rules}
use Rattle.ds_outside.proofs.Pens.{finished}
use Rattle.ds_clocked.proofs.words.write_words.Goals as goal

pub returns-clause-written : goal.returns-clause-written
returns-clause-written g c =
    let (lines, are, puts) = c.put_words.ensures.lines in
    let done = finished c.new-pen.ensures.begun puts c.finish.ensures in
    (lines, are, search rules)

pub returns-clause-ready : goal.returns-clause-ready
returns-clause-ready g c = c.put_words.ensures.ready
