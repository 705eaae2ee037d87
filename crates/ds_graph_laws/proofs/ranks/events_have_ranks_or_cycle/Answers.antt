use Rattle.ds_graph_laws.proofs.RanksOrCycle.{events_have_ranks_or_cycle}
use Rattle.ds_graph_laws.proofs.ranks.events_have_ranks_or_cycle.Goals as goal

pub returns : goal.returns
returns c = events_have_ranks_or_cycle
