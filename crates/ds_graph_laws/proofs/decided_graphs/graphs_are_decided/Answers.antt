use Rattle.ds_graph_laws.proofs.GraphsDecided.{graphs_are_decided}
use Rattle.ds_graph_laws.proofs.decided_graphs.graphs_are_decided.Goals as goal

pub returns : goal.returns
returns c = graphs_are_decided
