use Rattle.ds_settle.specs.Cone.{nets_of_tables}
use Rattle.ds_opening.specs.NetSlots.{IsAssigned}
use Rattle.ds_opening.proofs.net_slots.assign_tables.Given as goal

abbrev pub invariant-loop-table : goal.invariant-loop-table
invariant-loop-table l =
    IsAssigned l.slot (nets_of_tables l.design l.tables) l.fn.net_slots.items l.net_slots.items
