use Rattle.ds_replay.proofs.Replaying.{IsFiredTo}
use Rattle.ds_replay.proofs.log.replay.Given as goal

abbrev pub invariant-loop-i : goal.invariant-loop-i
invariant-loop-i l = IsFiredTo l.plan l.vectors.rows l.lines l.i l.state
