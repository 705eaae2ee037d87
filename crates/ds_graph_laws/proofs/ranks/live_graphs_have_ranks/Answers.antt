use Rattle.ds_graph_laws.proofs.RanksOrCycle.{live_graphs_have_ranks}
use Rattle.ds_graph_laws.proofs.ranks.live_graphs_have_ranks.Goals as goal

pub returns : goal.returns
returns c = live_graphs_have_ranks
