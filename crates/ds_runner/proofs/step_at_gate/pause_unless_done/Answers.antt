use Rattle.std.proofs.Common.{arith}
use Rattle.ds_runner.proofs.WorkLemmas.{event_small}
use Rattle.ds_runner.proofs.step_at_gate.pause_unless_done.Goals as goal

pub overflow_cast-event : goal.overflow_cast-event
overflow_cast-event g c = let (_, near) = c.requires.held in omega (
  arith,
  c.next-event.ensures,
  event_small c.args.run.now c.args.node c.fired-fired.result c.requires.sound near,
)
