use Rattle.ds_graph_laws.proofs.DesignsDecided.{designs_are_decided}
use Rattle.ds_graph_laws.proofs.designs.designs_are_decided.Goals as goal

pub returns : goal.returns
returns c = designs_are_decided
