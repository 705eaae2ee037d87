use Rattle.ds_accept.proofs.FaultyGraphs.{memory_alone}
use Rattle.ds_accept.proofs.plan.accept.Goals as goal

pub returns-clause-ok_exact : goal.returns-clause-ok_exact
returns-clause-ok_exact c = λ acceptable. memory_alone c.args.latches c.args.graph acceptable c.in-Err.fault c.in-Err.ensures.checked
