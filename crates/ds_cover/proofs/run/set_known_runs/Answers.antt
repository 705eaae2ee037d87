use Rattle.ds_cover.proofs.RemainingRuns.{known_less, left_less, left_none}
use Rattle.ds_cover.proofs.run.set_known_runs.Goals as goal

pub set_known-requires-clause-known : goal.set_known-requires-clause-known
set_known-requires-clause-known c =
    (known_less c.args.bank.now c.args.order.now c.loop-run.nets c.args.runs.now c.loop-run.run-index _ c.loop-run-test.true c.loop-run.invariant.known).0

pub loop-run-preserved : goal.loop-run-preserved
loop-run-preserved c = record {
  set = left_less c.args.bank.now c.args.order.now c.args.nets.now c.loop-run.nets c.set_known.new.nets c.args.runs.now c.loop-run.run-index _ c.loop-run-test.true c.loop-run.invariant.set c.set_known.ensures;
  known = (known_less c.args.bank.now c.args.order.now c.loop-run.nets c.args.runs.now c.loop-run.run-index _ c.loop-run-test.true c.loop-run.invariant.known).1 c.set_known.new.nets c.set_known.ensures;
}

pub returns : goal.returns
returns c = left_none c.args.bank.now c.args.order.now c.args.nets.now c.loop-run.nets c.args.runs.now c.loop-run.run-index c.loop-run-test.false c.loop-run.invariant.set
