use Rattle.std.proofs.Common.{arith}
use Rattle.ds_latch.specs.declared.node.Node.TheVariants.{Master, Slave}
use Rattle.ds_outside.proofs.Pens.{puts_on}
use Rattle.ds_replay.proofs.open_text.put_pair.Goals as goal

pub returns : goal.returns
returns g c =
    puts_on (c.put_open.ensures (Master c.args.cluster) c.requires.cluster (omega arith))
    (c.put_open-2.ensures (Slave c.args.cluster) c.requires.cluster (omega arith))
