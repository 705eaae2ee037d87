use Rattle.ds_graph_laws.proofs.GroupedClusterings.{grouped_clusterings_exist}
use Rattle.ds_graph_laws.proofs.splits.grouped_clusterings_exist.Goals as goal

pub returns : goal.returns
returns c = grouped_clusterings_exist
