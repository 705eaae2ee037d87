use Rattle.ds_latch.proofs.EventNodes.{events_of_nodes}
use Rattle.ds_latch.proofs.laws.events_of_nodes.Goals as goal

pub returns : goal.returns
returns c = events_of_nodes
