use Rattle.ds_split.proofs.OneClustering.{one_clustering_lem}
use Rattle.ds_split.proofs.laws.one_clustering.Goals as goal

pub returns : goal.returns
returns c = one_clustering_lem
