use Rattle.std.proofs.Common.{map}
use Rattle.ds_settle.specs.Cone.{nets_of_tables}
use Rattle.ds_opening.specs.NetSlots.{AreNetsAssigned}
use Rattle.ds_opening.proofs.net_slots.assign_groups.Given as goal

abbrev pub invariant-loop-a : goal.invariant-loop-a
invariant-loop-a l =
    AreNetsAssigned 0 (map (nets_of_tables l.design) l.groups) l.fn.net_slots.items l.net_slots.items
