use Rattle.std.proofs.Common.{subst}
use Rattle.ds_run.specs.WindowedText.{IsKnownLog}
use Rattle.ds_run.proofs.end.put_log.Goals as goal

pub write-requires-clause-log : goal.write-requires-clause-log
write-requires-clause-log g c =
    (subst (IsKnownLog c.args.plan.now.graph) c.in-Some.is c.requires.log).0

pub write-requires-clause-kinds : goal.write-requires-clause-kinds
write-requires-clause-kinds g c =
    (subst (IsKnownLog c.args.plan.now.graph) c.in-Some.is c.requires.log).1
