-- Jobs that run no threads and leave nothing where they stop: all that do not write as they read.
use Rattle.std.proofs.Common.{ℕ, List, Some}
use Rattle.ds_outside.specs.Held.{Held}
use Rattle.ds_design.specs.Circuit.{Circuit}
use Rattle.ds_design.specs.Rows.{Rows}
use Rattle.ds_latch.specs.Node.{Split, slackened}
use Rattle.ds_latch.specs.Plan.{Planned}
use Rattle.ds_cmd.specs.declared.accept.AcceptJob.{AcceptJob}
use Rattle.ds_cmd.specs.declared.graph.GraphJob.{GraphJob}
use Rattle.ds_cmd.specs.declared.list_clusters.ClustersJob.{ClustersJob}
use Rattle.ds_cmd.specs.declared.period.PeriodJob.{PeriodJob}
use Rattle.ds_cmd.specs.declared.rate.RateJob.{RateJob}
use Rattle.ds_cmd.specs.declared.replay.ReplayJob.{ReplayJob}
use Rattle.ds_cmd.specs.declared.times.TimesJob.{TimesJob}
use Rattle.ds_stage.specs.Stage.{then_stage}
use Rattle.ds_stage.specs.Stages.{netlist_stage, report_stage, vectors_stage}
use Rattle.ds_stage.specs.ClustersStage.{clustered_stage, listed_stage}
use Rattle.ds_stage.specs.SplitStage.{split_stage}
use Rattle.ds_stage.specs.GraphStage.{controller_stage}
use Rattle.ds_stage.specs.PlanStage.{planned_stage}
use Rattle.ds_stage.specs.AcceptStage.{ranks_stage}
use Rattle.ds_stage.specs.ReplayStage.{replayed_stage}
use Rattle.ds_stage.specs.PeriodStage.{timed_stage}
use Rattle.ds_stage.specs.RateStage.{bare_graph_stage}
use Rattle.ds_stage.specs.TimesStage.{scheduled_stage}
use Rattle.ds_app.specs.JobStages.{accept_stage, graph_stage, listing_stage, period_stage, rate_stage, replay_stage, times_stage}
use Rattle.ds_stage.proofs.StagesLeaveNothing.{LeavesNothing, clustered_nothing, controller_nothing, giving_nothing, netlist_nothing, planned_nothing, replayed_nothing, split_nothing, then_nothing, timed_nothing, vectors_nothing}
use Rattle.ds_stage.proofs.RateStages.{bare_nothing}
use Rattle.ds_stage.proofs.TimesStages.{scheduled_nothing}

pub report_nothing : (c : Circuit) → LeavesNothing (report_stage c)
report_nothing c = giving_nothing (report_stage c).means

pub check_nothing : (held : List ℕ → Held) (file : List ℕ) → LeavesNothing (then_stage (netlist_stage held file) report_stage)
check_nothing held file = then_nothing (netlist_stage held file) report_stage (netlist_nothing held file) report_nothing

pub graph_nothing : (held : List ℕ → Held) (job : GraphJob) → LeavesNothing (then_stage (netlist_stage held job.net) (graph_stage held job))
graph_nothing held job =
    then_nothing (netlist_stage held job.net) (graph_stage held job) (netlist_nothing held job.net)
    (λ c. then_nothing (split_stage held job.net job.groups job.clusters c) (λ (s : Split). controller_stage job.net job.shake (slackened s job.slack)) (split_nothing held job.net job.groups job.clusters c)
    (λ s. controller_nothing job.net job.shake (slackened s job.slack)))

pub replay_nothing : (held : List ℕ → Held) (job : ReplayJob) → LeavesNothing (then_stage (netlist_stage held job.net) (replay_stage held job))
replay_nothing held job =
    then_nothing (netlist_stage held job.net) (replay_stage held job) (netlist_nothing held job.net)
    (λ c. then_nothing (planned_stage held job.net job.graph job.groups job.clusters job.slack c) (λ (p : Planned). then_stage (vectors_stage held job.vec c) (λ (vectors : Rows). replayed_stage held job.log job.transparent p vectors.rows))
    (planned_nothing held job.net job.graph job.groups job.clusters job.slack c)
    (λ p. then_nothing (vectors_stage held job.vec c) (λ (vectors : Rows). replayed_stage held job.log job.transparent p vectors.rows)
    (vectors_nothing held job.vec c) (λ vectors. replayed_nothing held job.log job.transparent p vectors.rows)))

pub accept_nothing : (held : List ℕ → Held) (job : AcceptJob) → LeavesNothing (then_stage (netlist_stage held job.net) (accept_stage held job))
accept_nothing held job =
    then_nothing (netlist_stage held job.net) (accept_stage held job) (netlist_nothing held job.net)
    (λ c. then_nothing (planned_stage held job.net (Some job.graph) job.groups job.clusters job.slack c) ranks_stage (planned_nothing held job.net (Some job.graph) job.groups job.clusters job.slack c) (λ p. giving_nothing (ranks_stage p).means))

pub period_nothing : (held : List ℕ → Held) (job : PeriodJob) → LeavesNothing (then_stage (netlist_stage held job.net) (period_stage held job))
period_nothing held job =
    then_nothing (netlist_stage held job.net) (period_stage held job) (netlist_nothing held job.net)
    (λ c. then_nothing (planned_stage held job.net job.graph job.groups job.clusters job.slack c) (λ (p : Planned). timed_stage held job.delays p.graph)
    (planned_nothing held job.net job.graph job.groups job.clusters job.slack c) (λ p. timed_nothing held job.delays p.graph))

pub listing_nothing : (held : List ℕ → Held) (job : ClustersJob) → LeavesNothing (then_stage (netlist_stage held job.net) (listing_stage held job))
listing_nothing held job =
    then_nothing (netlist_stage held job.net) (listing_stage held job) (netlist_nothing held job.net)
    (λ c. then_nothing (clustered_stage held job.net job.groups job.clusters c) (listed_stage c)
    (clustered_nothing held job.net job.groups job.clusters c) (λ clusters. giving_nothing (listed_stage c clusters).means))

pub rate_nothing : (held : List ℕ → Held) (job : RateJob) → LeavesNothing (rate_stage held job)
rate_nothing held job =
    then_nothing (bare_graph_stage held job.graph) (timed_stage held job.delays) (bare_nothing held job.graph) (timed_nothing held job.delays)

pub times_nothing : (held : List ℕ → Held) (job : TimesJob) → LeavesNothing (then_stage (netlist_stage held job.net) (times_stage held job))
times_nothing held job =
    then_nothing (netlist_stage held job.net) (times_stage held job) (netlist_nothing held job.net)
    (λ c. then_nothing (planned_stage held job.net job.graph job.groups job.clusters job.slack c) (λ (p : Planned). scheduled_stage held job.delays job.turns p.graph)
    (planned_nothing held job.net job.graph job.groups job.clusters job.slack c) (λ p. scheduled_nothing held job.delays job.turns p.graph))
