use Rattle.std.proofs.lemmas.Result.{err_from_is_err_and}
use Rattle.ds_astg.specs.Line.{declare as declare_in}
use Rattle.ds_astg.proofs.StepSequence.{word_fault, word_ok}
use Rattle.ds_astg.proofs.signals.Signals.declare_all.Goals as goal

pub returns-in_err-declare-clause-fault : goal.returns-in_err-declare-clause-fault
returns-in_err-declare-clause-fault c =
    let p = err_from_is_err_and c.from_residual.result c.from_residual.ensures.1 in rw (p.1, p.2)
    (word_fault (declare_in c.args.role c.args.places.now) c.args.words.now c.loop-i.i c.word.result.now c.loop-i.self _ c.loop-i-test.true c.word.ensures c.loop-i.invariant _ c.in_err-declare.ensures.fault)

pub loop-i-preserved : goal.loop-i-preserved
loop-i-preserved c =
    word_ok (declare_in c.args.role c.args.places.now) c.args.words.now c.loop-i.i c.word.result.now c.loop-i.self _ c.loop-i-test.true c.word.ensures c.loop-i.invariant _ c.in_ok-declare.ensures.ok
