use Rattle.ds_rank.proofs.OneRanking.{one_list_of_ranks_lem}
use Rattle.ds_rank.proofs.laws.one_list_of_ranks.Goals as goal

pub returns : goal.returns
returns c = one_list_of_ranks_lem
