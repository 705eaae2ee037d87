use Rattle.std.proofs.Common.{None}
use Rattle.std.proofs.lemmas.Result.{IfOk-weaker}
use Rattle.ds_run.specs.Halted.{IsWorked}
use Rattle.ds_run.specs.Finished.{IsFinished}
use Rattle.ds_run.proofs.Halted.{played_worked}
use Rattle.ds_run.proofs.run_plan.run_with.Goals as goal

pub returns : goal.returns
returns g c = record {
  ok = IfOk-weaker c.work.result
      (IsWorked None c.args.workers.now.jobs c.args.plan.now c.args.vectors.now.rows)
      (IsFinished c.args.plan.now c.args.vectors.now.rows)
      (played_worked c.args.plan.now c.args.vectors.now.rows c.args.workers.now.jobs) c.work.ensures;
}
