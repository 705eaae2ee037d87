use Rattle.ds_graph_laws.proofs.Clusterings.{clusterings_exist}
use Rattle.ds_graph_laws.proofs.splits.clusterings_exist.Goals as goal

pub returns : goal.returns
returns c = clusterings_exist
