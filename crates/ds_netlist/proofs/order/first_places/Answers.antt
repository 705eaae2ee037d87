use Rattle.std.proofs.Common.{arith, refl}
use Rattle.std.proofs.lemmas.Iterator.{items_from_collect, YieldsList-from_range}
use Rattle.ds_netlist.proofs.order.first_places.Goals as goal

pub returns : goal.returns
returns c = record {
  ok = items_from_collect _ c.collect.ensures.ran (YieldsList-from_range 0 _ _ refl (omega arith));
}
