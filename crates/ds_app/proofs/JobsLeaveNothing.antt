-- Jobs that leave nothing where they stop: all that do not write as they read.
use Rattle.std.proofs.Common.{◌≡◌, ℕ, Bool, List, Option, None, Some, refl, subst, sym}
use Rattle.ds_outside.specs.Held.{Held}
use Rattle.ds_design.specs.Circuit.{Circuit}
use Rattle.ds_latch.specs.Plan.{Planned}
use Rattle.ds_cmd.specs.declared.job.Job.{Job}
use Rattle.ds_cmd.specs.declared.job.Job.TheVariants.{Run, Clock, Check, Graph, Replay, Accept, Demo, Period, Clusters, Rate, Times}
use Rattle.ds_cmd.specs.declared.run.RunJob.{RunJob}
use Rattle.ds_stage.specs.Stage.{then_stage}
use Rattle.ds_stage.specs.Stages.{netlist_stage, vectors_stage}
use Rattle.ds_stage.specs.PlanStage.{planned_stage}
use Rattle.ds_app.specs.DemoStage.{IsSummary}
use Rattle.ds_app.specs.Job.{run_stage, stages_of}
use Rattle.ds_app.specs.RunStage.{planned_run_stage, stopped_run_stage, stopped_stage}
use Rattle.ds_app.specs.Status.{HasWindows}
use Rattle.ds_stage.proofs.StagesLeaveNothing.{LeavesNothing, giving_nothing, netlist_nothing, planned_nothing, then_nothing, vectors_nothing}
use Rattle.ds_app.proofs.LeftAlone.{accept_nothing, check_nothing, graph_nothing, listing_nothing, period_nothing, rate_nothing, replay_nothing, times_nothing}

pub stopped_nothing : (held : List ℕ → Held) (vec : List ℕ) (log : Bool) (jobs stop : ℕ) (c : Circuit) (p : Planned)
    → LeavesNothing (stopped_run_stage held vec log jobs stop c p)
stopped_nothing held vec log jobs stop c p =
    then_nothing (vectors_stage held vec c) (stopped_stage log jobs stop c p) (vectors_nothing held vec c)
    (λ rows. giving_nothing (stopped_stage log jobs stop c p rows).means)

-- a run that is stopped leaves nothing
halted_nothing : (held : List ℕ → Held) (job : RunJob) (stop : Option ℕ) → job.stop ≡ stop → ¬ (job.stop ≡ None)
    → LeavesNothing (then_stage (netlist_stage held job.net) (run_stage held job))
halted_nothing held job None whole none = absurd (none whole)
halted_nothing held job (Some stop) is none =
    then_nothing (netlist_stage held job.net) (run_stage held job) (netlist_nothing held job.net)
    (λ c. then_nothing (planned_stage held job.net job.graph job.groups job.clusters job.slack c) (planned_run_stage held job.vec job.log job.jobs job.stop c)
    (planned_nothing held job.net job.graph job.groups job.clusters job.slack c) (λ p. subst (λ (o : Option ℕ). LeavesNothing (planned_run_stage held job.vec job.log job.jobs o c p)) (sym is)
    (stopped_nothing held job.vec job.log job.jobs stop c p)))

-- a job that does not write as it reads leaves nothing
pub job_nothing : (held : List ℕ → Held) (job : Job) → ¬ HasWindows job → LeavesNothing (stages_of held job)
job_nothing held (Run job) none = halted_nothing held job job.stop refl none
job_nothing held (Clock job) none = absurd (none tt)
job_nothing held (Check net) none = check_nothing held net
job_nothing held (Graph job) none = graph_nothing held job
job_nothing held (Replay job) none = replay_nothing held job
job_nothing held (Accept job) none = accept_nothing held job
job_nothing held (Demo job) none = giving_nothing (IsSummary job.seed job.registers job.turns)
job_nothing held (Period job) none = period_nothing held job
job_nothing held (Clusters job) none = listing_nothing held job
job_nothing held (Rate job) none = rate_nothing held job
job_nothing held (Times job) none = times_nothing held job
