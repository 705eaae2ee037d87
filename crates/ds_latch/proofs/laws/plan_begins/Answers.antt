use Rattle.ds_latch.proofs.PlanWindows.{plan_begins}
use Rattle.ds_latch.proofs.laws.plan_begins.Goals as goal

pub returns : goal.returns
returns c = plan_begins
