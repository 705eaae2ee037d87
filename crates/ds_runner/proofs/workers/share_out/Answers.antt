use Rattle.std.proofs.Common.{arith, ap}
use Rattle.ds_runner.specs.Work.{all_tickets}
use Rattle.ds_runner.proofs.HiringLemmas.{first_has, first_unfired}
use Rattle.ds_runner.proofs.TicketCounts.{blank_first}
use Rattle.ds_runner.proofs.workers.share_out.Goals as goal

pub share-requires-clause-has : goal.share-requires-clause-has
share-requires-clause-has g c κs within = first_has c.args.workload.now.run _ c.requires.begun.view

pub share-requires-clause-unfired : goal.share-requires-clause-unfired
share-requires-clause-unfired g c κs within = first_unfired c.args.workload.now.run _ c.requires.begun.view

pub returns-then-budget-eq1-clause-ok_few : goal.returns-then-budget-eq1-clause-ok_few
returns-then-budget-eq1-clause-ok_few g c = omega (arith, ap all_tickets c.requires.begun.view, blank_first c.args.workload.now.run)
