use Rattle.ds_cover.proofs.RemainingRuns.{left_less, left_none}
use Rattle.ds_cover.proofs.run.set_runs.Goals as goal

pub loop-run-preserved : goal.loop-run-preserved
loop-run-preserved c =
    left_less c.args.bank.now c.args.order.now c.args.nets.now c.loop-run.nets c.set_run.new.nets c.args.runs.now c.loop-run.run-index _ c.loop-run-test.true c.loop-run.invariant c.set_run.ensures

pub returns : goal.returns
returns c = left_none c.args.bank.now c.args.order.now c.args.nets.now c.loop-run.nets c.args.runs.now c.loop-run.run-index c.loop-run-test.false c.loop-run.invariant
