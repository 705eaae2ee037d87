use Rattle.ds_laws.proofs.OneRequired.{one_order}
use Rattle.ds_laws.proofs.orders.one_order.Goals as goal

pub returns : goal.returns
returns c = one_order
