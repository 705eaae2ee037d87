use Rattle.ds_accept.proofs.Accepted.{acceptable_is_accepted_lem}
use Rattle.ds_accept.proofs.laws.acceptable_is_accepted.Goals as goal

pub returns : goal.returns
returns c = acceptable_is_accepted_lem
