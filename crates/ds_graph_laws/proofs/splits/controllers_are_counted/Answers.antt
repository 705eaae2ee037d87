use Rattle.ds_graph_laws.proofs.ArcCount.{controllers_are_counted}
use Rattle.ds_graph_laws.proofs.splits.controllers_are_counted.Goals as goal

pub returns : goal.returns
returns c = controllers_are_counted
