use Rattle.ds_run.proofs.Stops.{has_words, known_left, left_appended, left_appended_part}
use Rattle.ds_run.proofs.stopped.write_stopped.Goals as goal

pub write_left-requires-clause-words : goal.write_left-requires-clause-words
write_left-requires-clause-words g c =
    has_words c.args.halt.now.plan.now c.args.halt.now.vectors.now.rows c.in-Ok.left.fired
    c.in-Ok.ensures.halted.record_is

pub write_left-requires-clause-log : goal.write_left-requires-clause-log
write_left-requires-clause-log g c =
    known_left c.args.log c.args.halt.now.stop c.args.workers.now.jobs c.args.halt.now.plan.now
    c.args.halt.now.vectors.now.rows c.in-Ok.left c.in-Ok.ensures

pub returns-clause-ok : goal.returns-clause-ok
returns-clause-ok g c =
    left_appended c.write_left.result _ _ c.in-Ok.ensures c.write_left.ensures.ok

pub returns-clause-part : goal.returns-clause-part
returns-clause-part g c failed = left_appended_part _ _ c.in-Ok.ensures (c.write_left.ensures.part failed)
