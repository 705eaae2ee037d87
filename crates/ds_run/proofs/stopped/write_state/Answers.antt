use Rattle.std.proofs.Common.{rules}
use Rattle.ds_outside.proofs.Pens.{finished, puts_on, with_put}
use Rattle.ds_run.proofs.Stops.{text_is}
use Rattle.ds_run.proofs.stopped.write_state.Goals as goal

pub returns : goal.returns
returns g c =
    let (rest, part, puts) = c.put_log.ensures.writes in
    let lines = with_put (text_is c.args.halt.now.plan.now c.args.halt.now.vectors.now.rows
    c.args.left.fired c.args.left.homes.items c.latches.result.now c.fired.result
    c.most_firings-most.result c.latches.ensures c.fired.ensures c.most_firings-most.ensures)
    (puts_on c.put_registers.ensures c.put_fired.ensures) in
    let done = finished c.new-pen.ensures.begun (puts_on lines puts) c.finish.ensures in
    (rest, part, search rules)
