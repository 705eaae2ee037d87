use Rattle.ds_graph_laws.proofs.RanksOrCycle.{ranks_or_cycle}
use Rattle.ds_graph_laws.proofs.ranks.ranks_or_cycle.Goals as goal

pub returns : goal.returns
returns c = ranks_or_cycle
