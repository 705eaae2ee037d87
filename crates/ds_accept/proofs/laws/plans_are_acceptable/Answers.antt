use Rattle.ds_accept.proofs.PlansAcceptable.{plans_are_acceptable_lem}
use Rattle.ds_accept.proofs.laws.plans_are_acceptable.Goals as goal

pub returns : goal.returns
returns c = plans_are_acceptable_lem
