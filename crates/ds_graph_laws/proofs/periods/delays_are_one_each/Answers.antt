use Rattle.ds_graph_laws.proofs.TimedGraphs.{delays_are_one_each}
use Rattle.ds_graph_laws.proofs.periods.delays_are_one_each.Goals as goal

pub returns : goal.returns
returns c = delays_are_one_each
