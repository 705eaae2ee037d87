use Rattle.ds_opening.specs.NetSlots.{AreNetsAssigned}
use Rattle.ds_opening.proofs.net_slots.assign_others.Given as goal

abbrev pub invariant-loop-j : goal.invariant-loop-j
invariant-loop-j l = AreNetsAssigned l.first l.others l.fn.net_slots.items l.net_slots.items
