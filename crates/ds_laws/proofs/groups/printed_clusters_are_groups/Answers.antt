use Rattle.ds_laws.proofs.Grouping.{printed_are_groups}
use Rattle.ds_laws.proofs.groups.printed_clusters_are_groups.Goals as goal

pub returns : goal.returns
returns c = printed_are_groups
