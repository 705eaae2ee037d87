use Rattle.ds_flat.proofs.Fronts.{ports_step, ports_all}
use Rattle.ds_flat.proofs.library.ports_in.Goals as goal

pub loop-command-preserved : goal.loop-command-preserved
loop-command-preserved c =
    ports_step c.args.commands.now c.loop-command.command-index c.command-item.result
    c.get.result.now c.loop-command.ports c.add_ports.new.ports _ c.command-item.is
    c.loop-command-test.true c.get.ensures c.loop-command.invariant c.in_ok-add_ports.ensures

pub returns : goal.returns
returns c =
    ports_all c.args.commands.now c.loop-command.command-index c.loop-command.ports _
    c.loop-command-test.false c.loop-command.invariant
