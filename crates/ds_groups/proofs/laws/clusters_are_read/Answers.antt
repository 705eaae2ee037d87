use Rattle.ds_groups.proofs.ReadAgain.{clusters_are_read}
use Rattle.ds_groups.proofs.laws.clusters_are_read.Goals as goal

pub returns : goal.returns
returns c = clusters_are_read
