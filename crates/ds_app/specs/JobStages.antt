-- The stages of the jobs that run no threads, behind the netlist where they read one.
use Rattle.std.specs.Prelude.{ℕ, false, List, Some}
use Rattle.ds_outside.specs.Held.{Held}
use Rattle.ds_design.specs.Circuit.{Circuit}
use Rattle.ds_latch.specs.Node.{slackened}
use Rattle.ds_cmd.specs.declared.accept.AcceptJob.{AcceptJob}
use Rattle.ds_cmd.specs.declared.graph.GraphJob.{GraphJob}
use Rattle.ds_cmd.specs.declared.list_clusters.ClustersJob.{ClustersJob}
use Rattle.ds_cmd.specs.declared.period.PeriodJob.{PeriodJob}
use Rattle.ds_cmd.specs.declared.rate.RateJob.{RateJob}
use Rattle.ds_cmd.specs.declared.replay.ReplayJob.{ReplayJob}
use Rattle.ds_cmd.specs.declared.times.TimesJob.{TimesJob}
use Rattle.ds_stage.specs.Stage.{Stage, then_stage}
use Rattle.ds_stage.specs.Stages.{vectors_stage, trace_stage}
use Rattle.ds_stage.specs.StreamStage.{most_vectors, streamed_stage}
use Rattle.ds_stage.specs.ClustersStage.{clustered_stage, listed_stage}
use Rattle.ds_stage.specs.SplitStage.{split_stage}
use Rattle.ds_stage.specs.GraphStage.{controller_stage}
use Rattle.ds_stage.specs.PlanStage.{planned_stage}
use Rattle.ds_stage.specs.AcceptStage.{ranks_stage}
use Rattle.ds_stage.specs.ReplayStage.{replayed_stage}
use Rattle.ds_stage.specs.PeriodStage.{timed_stage}
use Rattle.ds_stage.specs.RateStage.{bare_graph_stage}
use Rattle.ds_stage.specs.TimesStage.{scheduled_stage}

-- `clock`, once the netlist is read
abbrev pub clock_stage : (List ℕ → Held) → List ℕ → Circuit → Stage (List ℕ)
clock_stage held vec c =
    then_stage (streamed_stage held vec (most_vectors false) c) (trace_stage c)

-- `graph`, once the netlist is read
abbrev pub graph_stage : (List ℕ → Held) → GraphJob → Circuit → Stage (List ℕ)
graph_stage held job c =
    then_stage (split_stage held job.net job.groups job.clusters c) (λ s.
    controller_stage job.net job.shake (slackened s job.slack))

-- `replay`, once the netlist is read
abbrev pub replay_stage : (List ℕ → Held) → ReplayJob → Circuit → Stage (List ℕ)
replay_stage held job c =
    then_stage (planned_stage held job.net job.graph job.groups job.clusters job.slack c) (λ p.
    then_stage (vectors_stage held job.vec c) (λ vectors.
    replayed_stage held job.log job.transparent p vectors.rows))

-- `accept`, once the netlist is read
abbrev pub accept_stage : (List ℕ → Held) → AcceptJob → Circuit → Stage (List ℕ)
accept_stage held job c =
    then_stage (planned_stage held job.net (Some job.graph) job.groups job.clusters job.slack c)
    ranks_stage

-- `period`, once the netlist is read
abbrev pub period_stage : (List ℕ → Held) → PeriodJob → Circuit → Stage (List ℕ)
period_stage held job c =
    then_stage (planned_stage held job.net job.graph job.groups job.clusters job.slack c) (λ p.
    timed_stage held job.delays p.graph)

-- `clusters`, once the netlist is read
abbrev pub listing_stage : (List ℕ → Held) → ClustersJob → Circuit → Stage (List ℕ)
listing_stage held job c =
    then_stage (clustered_stage held job.net job.groups job.clusters c) (listed_stage c)

-- `rate`: without a netlist
abbrev pub rate_stage : (List ℕ → Held) → RateJob → Stage (List ℕ)
rate_stage held job =
    then_stage (bare_graph_stage held job.graph) (timed_stage held job.delays)

-- `times`, once the netlist is read
abbrev pub times_stage : (List ℕ → Held) → TimesJob → Circuit → Stage (List ℕ)
times_stage held job c =
    then_stage (planned_stage held job.net job.graph job.groups job.clusters job.slack c) (λ p.
    scheduled_stage held job.delays job.turns p.graph)
