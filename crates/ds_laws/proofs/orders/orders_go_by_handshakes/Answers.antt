use Rattle.ds_laws.proofs.Handshakes.{orders_go_by_handshakes}
use Rattle.ds_laws.proofs.orders.orders_go_by_handshakes.Goals as goal

pub returns : goal.returns
returns c = orders_go_by_handshakes
