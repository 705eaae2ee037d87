use Rattle.ds_graph_laws.proofs.OnePeriod.{graphs_have_one_period}
use Rattle.ds_graph_laws.proofs.single_period.graphs_have_one_period.Goals as goal

pub returns : goal.returns
returns c = graphs_have_one_period
