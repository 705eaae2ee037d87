use Rattle.ds_laws.proofs.PrintedRanks.{printed_graphs_have_ranks}
use Rattle.ds_laws.proofs.graphs.printed_graphs_have_ranks.Goals as goal

pub returns : goal.returns
returns c = printed_graphs_have_ranks
