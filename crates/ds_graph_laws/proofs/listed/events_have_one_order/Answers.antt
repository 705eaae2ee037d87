use Rattle.ds_graph_laws.proofs.OneOrder.{events_have_one_order}
use Rattle.ds_graph_laws.proofs.listed.events_have_one_order.Goals as goal

pub returns : goal.returns
returns c = events_have_one_order
