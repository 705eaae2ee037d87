use Rattle.ds_accept.proofs.OnePlan.{one_plan_lem}
use Rattle.ds_accept.proofs.laws.one_plan.Goals as goal

pub returns : goal.returns
returns c = one_plan_lem
