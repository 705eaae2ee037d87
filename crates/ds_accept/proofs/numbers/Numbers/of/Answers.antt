use Rattle.std.proofs.Common.{arith}
use Rattle.ds_accept.proofs.EventKeys.{not_before, one_more}
use Rattle.ds_accept.proofs.numbers.Numbers.of.Goals as goal

pub put-requires : goal.put-requires
put-requires c = not_before c.args.events.now c.loop-event.event-index (omega arith) c.event-item.result c.event-item.is
    c.loop-event.numbers c.loop-event.invariant c.requires

pub loop-event-preserved : goal.loop-event-preserved
loop-event-preserved c = one_more c.args.events.now c.loop-event.event-index (omega arith) c.event-item.result c.event-item.is
    c.loop-event.numbers c.loop-event.invariant c.put.new.self c.in_ok-put.ensures
