use Rattle.ds_graph_laws.proofs.ParallelArcDelays.{delays_are_alike}
use Rattle.ds_graph_laws.proofs.fewest.delays_are_alike.Goals as goal

pub returns : goal.returns
returns c = delays_are_alike
