-- The text that a job gives, and what stands in its way.
use Rattle.std.specs.Prelude.{ℕ, List}
use Rattle.ds_outside.specs.Held.{Held}
use Rattle.ds_design.specs.Circuit.{Circuit}
use Rattle.ds_cmd.specs.declared.job.Job.{Job}
use Rattle.ds_cmd.specs.declared.job.Job.TheVariants.{Run, Clock, Check, Graph, Replay, Accept}
use Rattle.ds_cmd.specs.declared.job.Job.TheVariants.{Demo, Period, Clusters, Rate, Times}
use Rattle.ds_cmd.specs.declared.run.RunJob.{RunJob}
use Rattle.ds_stage.specs.Stage.{Stage, then_stage}
use Rattle.ds_stage.specs.Stages.{netlist_stage, report_stage}
use Rattle.ds_stage.specs.PlanStage.{planned_stage}
use Rattle.ds_app.specs.JobStages.{accept_stage, clock_stage, graph_stage, period_stage}
use Rattle.ds_app.specs.JobStages.{listing_stage, rate_stage, replay_stage, times_stage}
use Rattle.ds_app.specs.RunStage.{planned_run_stage}
use Rattle.ds_app.specs.DemoStage.{demo_stage}

-- `run`, once the netlist is read
abbrev pub run_stage : (List ℕ → Held) → RunJob → Circuit → Stage (List ℕ)
run_stage held job c =
    then_stage (planned_stage held job.net job.graph job.groups job.clusters job.slack c)
    (planned_run_stage held job.vec job.log job.jobs job.stop c)

-- the stages of a job, on what its files hold
abbrev pub stages_of : (List ℕ → Held) → Job → Stage (List ℕ)
stages_of held (Run job) = then_stage (netlist_stage held job.net) (run_stage held job)
stages_of held (Clock job) = then_stage (netlist_stage held job.net) (clock_stage held job.vec)
stages_of held (Check net) = then_stage (netlist_stage held net) report_stage
stages_of held (Graph job) = then_stage (netlist_stage held job.net) (graph_stage held job)
stages_of held (Replay job) = then_stage (netlist_stage held job.net) (replay_stage held job)
stages_of held (Accept job) = then_stage (netlist_stage held job.net) (accept_stage held job)
stages_of held (Demo job) = demo_stage job.seed job.registers job.turns
stages_of held (Period job) = then_stage (netlist_stage held job.net) (period_stage held job)
stages_of held (Clusters job) = then_stage (netlist_stage held job.net) (listing_stage held job)
stages_of held (Rate job) = rate_stage held job
stages_of held (Times job) = then_stage (netlist_stage held job.net) (times_stage held job)
