use Rattle.std.proofs.Common.{arith}
use Rattle.ds_latch.specs.declared.node.Node.TheVariants.{In, Out}
use Rattle.ds_outside.proofs.Pens.{puts_on}
use Rattle.ds_replay.proofs.open_text.put_open_lines.Goals as goal

pub returns : goal.returns
returns g c =
    puts_on (puts_on (c.put_open.ensures In tt (omega arith)) (c.put_open-2.ensures Out tt (omega arith))) c.put_pairs.ensures
