use Rattle.ds_latch.proofs.OrdersRise.{orders_are_accepted}
use Rattle.ds_latch.proofs.laws.orders_are_accepted.Goals as goal

pub returns : goal.returns
returns c = orders_are_accepted
