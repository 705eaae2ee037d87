use Rattle.std.proofs.lemmas.Result.{IfOk-weaker}
use Rattle.ds_runner.specs.Stopped.{IsRunRecord}
use Rattle.ds_run.specs.Halted.{IsWorked}
use Rattle.ds_run.proofs.Halted.{worked}
use Rattle.ds_run.proofs.run_plan.work.Goals as goal

pub returns : goal.returns
returns g c =
    IfOk-weaker c.run-2.result (IsRunRecord c.args.quota c.args.workers.now.jobs c.in_ok-run.run')
    (IsWorked c.args.quota c.args.workers.now.jobs c.args.plan.now c.args.vectors.now.rows)
    (λ r ran. worked c.args.plan.now c.args.vectors.now.rows c.args.quota c.args.workers.now.jobs
    c.in_ok-run.run' r c.graph-accepted.ensures.accepted c.in_ok-run.ensures.run ran)
    c.run-2.ensures
