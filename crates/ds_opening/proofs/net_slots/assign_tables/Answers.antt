use Rattle.ds_settle.specs.Cone.{nets_of_tables}
use Rattle.ds_opening.proofs.NetSlotLemmas.{assigned_none, assigned_table}
use Rattle.ds_opening.proofs.net_slots.assign_tables.Goals as goal

pub loop-table-init : goal.loop-table-init
loop-table-init c =
    assigned_none c.args.slot (nets_of_tables c.args.design.now c.args.tables.now) c.args.net_slots.now.items

pub loop-table-preserved : goal.loop-table-preserved
loop-table-preserved c =
    assigned_table c.args.design.now c.args.tables.now c.args.slot c.loop-table.table-index
    c.args.net_slots.now.items c.loop-table.net_slots.items c.tables-gates.result.now c.index-gates-table.result
    c.index.result c.tables-gates.ensures.in_range c.requires.tables c.requires.nets
    c.loop-table-test.true c.tables-gates.ensures.tables c.index.ensures c.loop-table.invariant
