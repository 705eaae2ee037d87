use Rattle.ds_graph_laws.proofs.TimedGraphs.{periods_exist}
use Rattle.ds_graph_laws.proofs.periods.periods_exist.Goals as goal

pub returns : goal.returns
returns c = periods_exist
