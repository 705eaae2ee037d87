use Rattle.ds_graph_laws.proofs.TimedGraphs.{plans_are_timed}
use Rattle.ds_graph_laws.proofs.periods.plans_are_timed.Goals as goal

pub returns : goal.returns
returns c = plans_are_timed
