use Rattle.std.proofs.Common.{◌≡◌, map, take}
use Rattle.ds_accept.specs.Given.{capped}
use Rattle.ds_accept.proofs.capped.capped_orders.Given as goal

abbrev pub invariant-loop-order : goal.invariant-loop-order
invariant-loop-order l = l.few.items ≡ map capped (take l.order-index l.asked)
