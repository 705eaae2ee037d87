use Rattle.ds_graph_laws.proofs.DataEdgesListed.{edges_listed}
use Rattle.ds_graph_laws.proofs.splits.edges_are_listed.Goals as goal

pub returns : goal.returns
returns c = edges_listed
