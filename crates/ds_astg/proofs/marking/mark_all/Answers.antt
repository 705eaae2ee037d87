use Rattle.std.proofs.lemmas.Result.{err_from_is_err_and}
use Rattle.ds_astg.specs.Marking.{mark as mark_in}
use Rattle.ds_astg.proofs.StepSequence.{word_fault}
use Rattle.ds_astg.proofs.marking.mark_all.Goals as goal

pub returns-in_err-mark-clause-fault : goal.returns-in_err-mark-clause-fault
returns-in_err-mark-clause-fault c =
    let p = err_from_is_err_and c.from_residual.result c.from_residual.ensures.1 in rw (p.1, p.2)
    (word_fault (mark_in c.args.signals.now) c.args.entries.now c.loop-i.i c.word.result.now c.loop-i.places _ c.loop-i-test.true c.word.ensures c.loop-i.invariant _ c.in_err-mark.ensures.fault)
