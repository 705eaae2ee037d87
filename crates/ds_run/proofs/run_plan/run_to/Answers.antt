use Rattle.std.proofs.Common.{Some}
use Rattle.std.proofs.lemmas.Result.{IfOk-weaker}
use Rattle.ds_run.specs.Halted.{IsHalted, IsWorked}
use Rattle.ds_run.proofs.Halted.{halted_worked}
use Rattle.ds_run.proofs.run_plan.run_to.Goals as goal

pub returns : goal.returns
returns g c = record {
  ok = IfOk-weaker c.work.result
      (IsWorked (Some c.args.stop) c.args.workers.now.jobs c.args.plan.now c.args.vectors.now.rows)
      (IsHalted c.args.stop c.args.workers.now.jobs c.args.plan.now c.args.vectors.now.rows)
      (halted_worked c.args.plan.now c.args.vectors.now.rows c.args.stop c.args.workers.now.jobs)
      c.work.ensures;
}
