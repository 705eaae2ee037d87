use Rattle.ds_opening.specs.NetSlots.{IsAssigned}
use Rattle.ds_opening.proofs.net_slots.assign_nets.Given as goal

abbrev pub invariant-loop-net : goal.invariant-loop-net
invariant-loop-net l = IsAssigned l.slot l.nets l.fn.net_slots.items l.net_slots.items
