use Rattle.ds_latch.proofs.OrdersRise.{required_orders_rise}
use Rattle.ds_latch.proofs.laws.required_orders_rise.Goals as goal

pub returns : goal.returns
returns c = required_orders_rise
