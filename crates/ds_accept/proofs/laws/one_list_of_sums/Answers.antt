use Rattle.ds_accept.proofs.LeastSums.{one_list_of_sums_lem}
use Rattle.ds_accept.proofs.laws.one_list_of_sums.Goals as goal

pub returns : goal.returns
returns c = one_list_of_sums_lem
