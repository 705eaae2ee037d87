use Rattle.ds_graph_laws.proofs.TimedGraphs.{graphs_have_periods}
use Rattle.ds_graph_laws.proofs.periods.graphs_have_periods.Goals as goal

pub returns : goal.returns
returns c = graphs_have_periods
