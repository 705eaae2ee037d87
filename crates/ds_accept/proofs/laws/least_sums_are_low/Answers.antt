use Rattle.ds_accept.proofs.LeastSums.{least_sums_are_low_lem}
use Rattle.ds_accept.proofs.laws.least_sums_are_low.Goals as goal

pub returns : goal.returns
returns c = least_sums_are_low_lem
