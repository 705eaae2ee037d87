use Rattle.ds_split.proofs.OneClustering.{one_grouped_lem}
use Rattle.ds_split.proofs.laws.one_grouped_clustering.Goals as goal

pub returns : goal.returns
returns c = one_grouped_lem
