use Rattle.std.proofs.Common.{arith}
use Rattle.ds_fabric.proofs.IncomingArcs.{peek_near}
use Rattle.ds_fabric.proofs.counts.lacking_between.Goals as goal

pub peek-requires : goal.peek-requires
peek-requires g c =
    let (run, event, table, incoming, near, from, end) = c.requires.inside in
    peek_near run event c.loop-i.i _ c.args.incoming.now.starts.items
    c.args.incoming.now.numbers.items c.args.incoming.now.arcs.items c.as_slice-arcs.result.now _
    table.sound near incoming c.as_slice-arcs.ensures.value
    (omega (arith, from, c.loop-i.invariant)) (omega (arith, c.loop-i-test.true, end))
    table.sized
