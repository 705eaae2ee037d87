-- A job names a file that it did not read only where a read failed.
use Rattle.std.proofs.Common.{ℕ, Bool, false, List, Option, None, Some}
use Rattle.ds_outside.specs.Held.{Held}
use Rattle.ds_design.specs.Circuit.{Circuit}
use Rattle.ds_cmd.specs.declared.job.Job.{Job}
use Rattle.ds_cmd.specs.declared.job.Job.TheVariants.{Run, Clock, Check, Graph, Replay, Accept, Demo, Period, Clusters, Rate, Times}
use Rattle.ds_cmd.specs.declared.accept.AcceptJob.{AcceptJob}
use Rattle.ds_cmd.specs.declared.graph.GraphJob.{GraphJob}
use Rattle.ds_cmd.specs.declared.list_clusters.ClustersJob.{ClustersJob}
use Rattle.ds_cmd.specs.declared.period.PeriodJob.{PeriodJob}
use Rattle.ds_cmd.specs.declared.rate.RateJob.{RateJob}
use Rattle.ds_cmd.specs.declared.replay.ReplayJob.{ReplayJob}
use Rattle.ds_cmd.specs.declared.run.RunJob.{RunJob}
use Rattle.ds_cmd.specs.declared.times.TimesJob.{TimesJob}
use Rattle.ds_stage.specs.Stage.{OfFile, then_stage}
use Rattle.ds_stage.specs.Stages.{netlist_stage, report_stage, trace_stage, vectors_stage}
use Rattle.ds_stage.specs.StreamStage.{most_vectors, streamed_stage}
use Rattle.ds_stage.specs.ClustersStage.{clustered_stage, listed_stage}
use Rattle.ds_stage.specs.SplitStage.{split_stage}
use Rattle.ds_stage.specs.GraphStage.{controller_stage}
use Rattle.ds_stage.specs.PlanStage.{planned_stage}
use Rattle.ds_stage.specs.AcceptStage.{ranks_stage}
use Rattle.ds_stage.specs.ReplayStage.{replayed_stage}
use Rattle.ds_stage.specs.PeriodStage.{timed_stage}
use Rattle.ds_stage.specs.RateStage.{bare_graph_stage}
use Rattle.ds_stage.specs.TimesStage.{scheduled_stage}
use Rattle.ds_latch.specs.Node.{Split, slackened}
use Rattle.ds_latch.specs.Plan.{Planned}
use Rattle.ds_design.specs.Rows.{Rows}
use Rattle.ds_app.specs.RunStage.{planned_run_stage, stopped_stage, traced_stage}
use Rattle.ds_app.specs.Job.{run_stage, stages_of}
use Rattle.ds_app.specs.JobStages.{accept_stage, clock_stage, graph_stage, listing_stage, period_stage, rate_stage, replay_stage, times_stage}
use Rattle.ds_stage.proofs.PeriodStages.{timed_says}
use Rattle.ds_stage.proofs.RateStages.{bare_says}
use Rattle.ds_stage.proofs.TimesStages.{scheduled_says}
use Rattle.ds_stage.proofs.Expansions.{controller_says}
use Rattle.ds_stage.proofs.Streamed.{streamed_says}
use Rattle.ds_stage.proofs.StageReadFailures.{IsFailed, Says, clustered_says, netlist_says, planned_says, replayed_says, split_says, then_says, vectors_say}

clock_says : (held : List ℕ → Held) (vec : List ℕ) (failed : OfFile) (c : Circuit) → Says (clock_stage held vec c) failed
clock_says held vec failed c = then_says (streamed_stage held vec (most_vectors false) c) (trace_stage c) failed (streamed_says held vec (most_vectors false) c failed) (λ rows line none. absurd none)

fired_says : (held : List ℕ → Held) (vec : List ℕ) (log : Bool) (jobs : ℕ) (stop : Option ℕ) (failed : OfFile) (c : Circuit) (p : Planned) → Says (planned_run_stage held vec log jobs stop c p) failed
fired_says held vec log jobs None failed c p =
    then_says (streamed_stage held vec (most_vectors log) c) (traced_stage log c p) failed (streamed_says held vec (most_vectors log) c failed) (λ rows line none. absurd none)
fired_says held vec log jobs (Some stop) failed c p =
    then_says (vectors_stage held vec c) (stopped_stage log jobs stop c p) failed (vectors_say held vec c failed) (λ rows line none. absurd none)

run_says : (held : List ℕ → Held) (job : RunJob) (failed : OfFile) (c : Circuit) → Says (run_stage held job c) failed
run_says held job failed c =
    then_says (planned_stage held job.net job.graph job.groups job.clusters job.slack c) (planned_run_stage held job.vec job.log job.jobs job.stop c) failed
    (planned_says held job.net job.graph job.groups job.clusters job.slack failed c) (fired_says held job.vec job.log job.jobs job.stop failed c)

accept_says : (held : List ℕ → Held) (job : AcceptJob) (failed : OfFile) (c : Circuit) → Says (accept_stage held job c) failed
accept_says held job failed c =
    then_says (planned_stage held job.net (Some job.graph) job.groups job.clusters job.slack c) ranks_stage failed (planned_says held job.net (Some job.graph) job.groups job.clusters job.slack failed c) (λ p line none. absurd none)

graph_says : (held : List ℕ → Held) (job : GraphJob) (failed : OfFile) (c : Circuit) → Says (graph_stage held job c) failed
graph_says held job failed c =
    then_says (split_stage held job.net job.groups job.clusters c) (λ (s : Split). controller_stage job.net job.shake (slackened s job.slack)) failed (split_says held job.net job.groups job.clusters failed c)
    (λ s. controller_says job.net job.shake failed (slackened s job.slack))

replay_says : (held : List ℕ → Held) (job : ReplayJob) (failed : OfFile) (c : Circuit) → Says (replay_stage held job c) failed
replay_says held job failed c =
    then_says (planned_stage held job.net job.graph job.groups job.clusters job.slack c) (λ (p : Planned). then_stage (vectors_stage held job.vec c) (λ (vectors : Rows). replayed_stage held job.log job.transparent p vectors.rows)) failed
    (planned_says held job.net job.graph job.groups job.clusters job.slack failed c)
    (λ p. then_says (vectors_stage held job.vec c) (λ (vectors : Rows). replayed_stage held job.log job.transparent p vectors.rows) failed (vectors_say held job.vec c failed) (λ vectors. replayed_says held job.log job.transparent failed p vectors.rows))

period_says : (held : List ℕ → Held) (job : PeriodJob) (failed : OfFile) (c : Circuit) → Says (period_stage held job c) failed
period_says held job failed c =
    then_says (planned_stage held job.net job.graph job.groups job.clusters job.slack c) (λ (p : Planned). timed_stage held job.delays p.graph) failed
    (planned_says held job.net job.graph job.groups job.clusters job.slack failed c) (λ p. timed_says held job.delays failed p.graph)

listing_says : (held : List ℕ → Held) (job : ClustersJob) (failed : OfFile) (c : Circuit) → Says (listing_stage held job c) failed
listing_says held job failed c =
    then_says (clustered_stage held job.net job.groups job.clusters c) (listed_stage c) failed
    (clustered_says held job.net job.groups job.clusters failed c) (λ clusters line none. absurd none)

rate_says : (held : List ℕ → Held) (job : RateJob) (failed : OfFile) → Says (rate_stage held job) failed
rate_says held job failed =
    then_says (bare_graph_stage held job.graph) (timed_stage held job.delays) failed (bare_says held job.graph failed) (λ g. timed_says held job.delays failed g)

times_says : (held : List ℕ → Held) (job : TimesJob) (failed : OfFile) (c : Circuit) → Says (times_stage held job c) failed
times_says held job failed c =
    then_says (planned_stage held job.net job.graph job.groups job.clusters job.slack c) (λ (p : Planned). scheduled_stage held job.delays job.turns p.graph) failed
    (planned_says held job.net job.graph job.groups job.clusters job.slack failed c) (λ p. scheduled_says held job.delays job.turns p.graph failed)

-- where a job names a file that it did not read, a read failed
pub job_says : (held : List ℕ → Held) (job : Job) (failed : OfFile) (line : List ℕ) → (stages_of held job).unread failed line → IsFailed failed
job_says held (Run job) failed line is = then_says (netlist_stage held job.net) (run_stage held job) failed (netlist_says held job.net failed) (run_says held job failed) line is
job_says held (Clock job) failed line is = then_says (netlist_stage held job.net) (clock_stage held job.vec) failed (netlist_says held job.net failed) (clock_says held job.vec failed) line is
job_says held (Check net) failed line is = then_says (netlist_stage held net) report_stage failed (netlist_says held net failed) (λ c l none. absurd none) line is
job_says held (Graph job) failed line is = then_says (netlist_stage held job.net) (graph_stage held job) failed (netlist_says held job.net failed) (graph_says held job failed) line is
job_says held (Replay job) failed line is = then_says (netlist_stage held job.net) (replay_stage held job) failed (netlist_says held job.net failed) (replay_says held job failed) line is
job_says held (Accept job) failed line is = then_says (netlist_stage held job.net) (accept_stage held job) failed (netlist_says held job.net failed) (accept_says held job failed) line is
job_says held (Demo job) failed line none = absurd none
job_says held (Period job) failed line is = then_says (netlist_stage held job.net) (period_stage held job) failed (netlist_says held job.net failed) (period_says held job failed) line is
job_says held (Clusters job) failed line is = then_says (netlist_stage held job.net) (listing_stage held job) failed (netlist_says held job.net failed) (listing_says held job failed) line is
job_says held (Rate job) failed line is = rate_says held job failed line is
job_says held (Times job) failed line is = then_says (netlist_stage held job.net) (times_stage held job) failed (netlist_says held job.net failed) (times_says held job failed) line is
