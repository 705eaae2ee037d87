use Rattle.ds_graph_laws.proofs.DesignsDecided.{designs_have_depth}
use Rattle.ds_graph_laws.proofs.designs.designs_have_depth.Goals as goal

pub returns : goal.returns
returns c = designs_have_depth
