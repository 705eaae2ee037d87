use Rattle.ds_design.proofs.PackedTables.{bank-take_more}
use Rattle.ds_netlist.proofs.packed.bank_of.Goals as goal

pub loop-gate-preserved : goal.loop-gate-preserved
loop-gate-preserved c =
    bank-take_more c.args.tables.now c.loop-gate.bank c.add.new.self c.loop-gate.gate-index c.gate-item.result c.loop-gate-test.true c.gate-item.is
    c.loop-gate.invariant c.in_ok-add.ensures.ok
