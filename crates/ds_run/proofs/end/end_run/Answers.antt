use Rattle.std.proofs.Common.{rules, ◌++◌, refl}
use Rattle.ds_design.specs.Trace.{end_line}
use Rattle.ds_outside.proofs.Pens.{finished, puts_on}
use Rattle.ds_run.proofs.WindowTexts.{known_some}
use Rattle.ds_run.proofs.end.end_run.Goals as goal

pub put_log-requires : goal.put_log-requires
put_log-requires g c = record {
  log = known_some c.args.plan.now.graph c.args.log.now c.requires.log;
}

pub returns-clause-writes : goal.returns-clause-writes
returns-clause-writes g c =
    let (rest, part, puts) = c.put_log.ensures.writes in
    let done = finished c.new-pen.ensures.begun (puts_on c.put_end_line.ensures puts) c.finish.ensures in
    (end_line c.args.registers.now ++ rest, (rest, part, refl), search rules)
