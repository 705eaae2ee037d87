use Rattle.ds_graph_laws.proofs.ParallelArcDelays.{fewest_reach}
use Rattle.ds_graph_laws.proofs.fewest.cycles_go_by_fewest_tokens.Goals as goal

pub returns : goal.returns
returns c = fewest_reach
