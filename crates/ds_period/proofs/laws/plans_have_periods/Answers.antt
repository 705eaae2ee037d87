use Rattle.ds_period.proofs.InputCycle.{plans}
use Rattle.ds_period.proofs.laws.plans_have_periods.Goals as goal

pub returns : goal.returns
returns c = plans
