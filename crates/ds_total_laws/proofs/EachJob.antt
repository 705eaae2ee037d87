-- A job whose files have bytes has a text, or a line that refuses it.
use Rattle.std.proofs.Common.{inl, ℕ, List, Some, refl}
use Rattle.ds_outside.specs.Held.{Held}
use Rattle.ds_design.specs.Rows.{Rows}
use Rattle.ds_latch.specs.Node.{Split, slackened}
use Rattle.ds_latch.specs.Plan.{Planned}
use Rattle.ds_cmd.specs.Allowed.{AreAllowed}
use Rattle.ds_cmd.specs.declared.job.Job.{Job}
use Rattle.ds_cmd.specs.declared.job.Job.TheVariants.{Run, Clock, Check, Graph, Replay, Accept, Demo, Period, Clusters, Rate, Times}
use Rattle.ds_stage.specs.AcceptStage.{ranks_stage}
use Rattle.ds_stage.specs.GraphStage.{controller_stage}
use Rattle.ds_stage.specs.PeriodStage.{timed_stage}
use Rattle.ds_stage.specs.PlanStage.{planned_stage}
use Rattle.ds_stage.specs.TimesStage.{scheduled_stage}
use Rattle.ds_stage.proofs.PlanAccepted.{planned_is_plan}
use Rattle.ds_stage.specs.ReplayStage.{replayed_stage}
use Rattle.ds_groups.specs.Names.{register_names}
use Rattle.ds_groups.specs.Written.{clusters_text}
use Rattle.ds_stage.specs.ClustersStage.{clustered_stage, listed_stage}
use Rattle.ds_stage.specs.SplitStage.{split_stage}
use Rattle.ds_stage.specs.Stage.{then_stage}
use Rattle.ds_stage.specs.Stages.{report_stage, vectors_stage}
use Rattle.ds_app.specs.Job.{run_stage, stages_of}
use Rattle.ds_app.specs.JobStages.{accept_stage, clock_stage, graph_stage, listing_stage, period_stage, replay_stage, times_stage}
use Rattle.ds_app.specs.RunStage.{planned_run_stage}
use Rattle.ds_total_laws.specs.Decided.{IsDecided, JobsAreDecided}
use Rattle.ds_total_laws.specs.FileBytes.{FilesHaveBytes}
use Rattle.ds_total_laws.proofs.StagesDecided.{then_decided}
use Rattle.ds_total_laws.proofs.Demos.{demo_decided}
use Rattle.ds_total_laws.proofs.Netlists.{behind_netlist}
use Rattle.ds_total_laws.proofs.PlansDecided.{planned_decided}
use Rattle.ds_total_laws.proofs.RateTexts.{rate_decided, scheduled_decided}
use Rattle.ds_total_laws.proofs.Splits.{clustered_decided, controller_decided, ready_with, split_decided, split_ready}
use Rattle.ds_total_laws.proofs.JobTextsExist.{clock_decided, ranks_decided, replay_decided, report_decided, run_decided, timed_decided}

module _ (held : List ℕ → Held) where
  job_decided : (job : Job) → AreAllowed job → FilesHaveBytes held job → IsDecided (stages_of held job)
  job_decided (Run job) ((some, most), slack) (net, vec, graph, groups) =
      behind_netlist held job.net (run_stage held job) net (λ c range accepts.
      then_decided (planned_stage held job.net job.graph job.groups job.clusters job.slack c) (planned_run_stage held job.vec job.log job.jobs job.stop c)
      (planned_decided held job.net job.graph job.groups job.clusters job.slack graph groups c accepts)
      (λ p planned. run_decided held c range accepts job.net job.graph job.groups job.clusters job.slack p planned job.vec job.log job.jobs job.stop vec some))
  job_decided (Clock job) allowed (net, vec) =
      behind_netlist held job.net (clock_stage held job.vec) net (λ c range accepts. clock_decided held c range accepts job.vec vec)
  job_decided (Check file) allowed net = behind_netlist held file report_stage net (λ c range accepts. report_decided held c range accepts)
  job_decided (Graph job) (low, shaken) (net, groups) =
      behind_netlist held job.net (graph_stage held job) net (λ c range accepts.
      then_decided (split_stage held job.net job.groups job.clusters c) (λ (s : Split). controller_stage job.net job.shake (slackened s job.slack)) (split_decided held job.net job.groups job.clusters groups c accepts)
      (λ s is. controller_decided job.net job.shake (slackened s job.slack) (ready_with s job.slack (split_ready held job.net job.groups job.clusters groups c accepts s is))))
  job_decided (Replay job) (slack, without) (net, vec, log, graph, groups) =
      behind_netlist held job.net (replay_stage held job) net (λ c range accepts.
      then_decided (planned_stage held job.net job.graph job.groups job.clusters job.slack c)
      (λ (p : Planned). then_stage (vectors_stage held job.vec c) (λ (vectors : Rows). replayed_stage held job.log job.transparent p vectors.rows))
      (planned_decided held job.net job.graph job.groups job.clusters job.slack graph groups c accepts)
      (λ p planned. replay_decided held c range accepts job.net job.graph job.groups job.clusters job.slack p planned job.vec job.log job.transparent vec log without))
  job_decided (Accept job) allowed (net, graph, groups) =
      behind_netlist held job.net (accept_stage held job) net (λ c range accepts.
      then_decided (planned_stage held job.net (Some job.graph) job.groups job.clusters job.slack c) ranks_stage
      (planned_decided held job.net (Some job.graph) job.groups job.clusters job.slack graph groups c accepts)
      (λ p planned. ranks_decided held c range accepts job.net (Some job.graph) job.groups job.clusters job.slack p planned))
  job_decided (Demo job) (some, few, turns, workers) has_bytes = demo_decided job.seed job.registers job.turns some few turns
  job_decided (Period job) allowed (net, delays, graph, groups) =
      behind_netlist held job.net (period_stage held job) net (λ c range accepts.
      then_decided (planned_stage held job.net job.graph job.groups job.clusters job.slack c) (λ (p : Planned). timed_stage held job.delays p.graph)
      (planned_decided held job.net job.graph job.groups job.clusters job.slack graph groups c accepts)
      (λ p planned. timed_decided held c range accepts job.net job.graph job.groups job.clusters job.slack p planned job.delays delays))
  job_decided (Clusters job) allowed (net, groups) =
      behind_netlist held job.net (listing_stage held job) net (λ c range accepts.
      then_decided (clustered_stage held job.net job.groups job.clusters c) (listed_stage c) (clustered_decided held job.net job.groups job.clusters groups c accepts)
      (λ clusters are. inl (clusters_text (register_names c) clusters, refl)))
  job_decided (Rate job) allowed (graph, delays) = rate_decided held job graph delays
  job_decided (Times job) allowed (net, delays, graph, groups) =
      behind_netlist held job.net (times_stage held job) net (λ c range accepts.
      then_decided (planned_stage held job.net job.graph job.groups job.clusters job.slack c) (λ (p : Planned). scheduled_stage held job.delays job.turns p.graph)
      (planned_decided held job.net job.graph job.groups job.clusters job.slack graph groups c accepts)
      (λ p planned. scheduled_decided held job.delays job.turns p.graph (planned_is_plan held job.net job.graph job.groups job.clusters job.slack c p accepts planned).live delays))

-- each job is decided
pub jobs_are_decided : JobsAreDecided
jobs_are_decided held job allowed has_bytes = job_decided held job allowed has_bytes
