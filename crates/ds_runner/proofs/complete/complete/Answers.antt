use Rattle.std.proofs.Common.{arith}
use Rattle.ds_runner.proofs.FiringOrders.{still_has}
use Rattle.ds_runner.proofs.WorkLemmas.{moved_on, still_belongs}
use Rattle.ds_runner.proofs.complete.complete.Goals as goal

pub fire_rounds-requires-clause-fits : goal.fire_rounds-requires-clause-fits
fire_rounds-requires-clause-fits g c κs within =
    still_belongs c.args.workload.now c.args.pass.now c.fire_turns.new.pass c.requires.fits c.fire_turns.ensures.moved

pub fire_rounds-requires-clause-all : goal.fire_rounds-requires-clause-all
fire_rounds-requires-clause-all g c κs within =
    still_has c.args.workload.now.memory c.args.pass.now c.fire_turns.new.pass c.requires.all c.fire_turns.ensures.moved

pub returns-clause-moved : goal.returns-clause-moved
returns-clause-moved g c = moved_on c.args.workload.now.memory c.args.pass.now c.fire_turns.new.pass c.fire_rounds.new.pass
    c.fire_turns.ensures.moved c.fire_rounds.ensures.moved

pub returns-clause-most : goal.returns-clause-most
returns-clause-most g c = omega (arith, c.fire_rounds.ensures.most, c.fire_turns.ensures.fired)

pub returns-clause-done : goal.returns-clause-done
returns-clause-done g c short = c.fire_rounds.ensures.done (omega (arith, short, c.fire_turns.ensures.fired))
