-- A job that has a text is not refused, where its files tell what they hold.
use Rattle.std.proofs.Common.{◌≡◌, ◌≢◌, ℕ, Bool, false, List, Option, None, Some, subst}
use Rattle.ds_outside.specs.Held.{Held, untold}
use Rattle.ds_outside.specs.declared.files.Which.TheVariants.{Log}
use Rattle.ds_design.specs.Circuit.{Circuit}
use Rattle.ds_design.specs.Rows.{Rows}
use Rattle.ds_netlist.specs.Laws.{FaultsAreRefused}
use Rattle.ds_split.specs.Laws.{OneGroupedClustering}
use Rattle.ds_shake.proofs.FaultyExpansion.{faults_are_refused_lem}
use Rattle.ds_cmd.specs.declared.job.Job.{Job}
use Rattle.ds_cmd.specs.declared.job.Job.TheVariants.{Run, Clock, Check, Graph, Replay, Accept, Demo, Period, Clusters, Rate, Times}
use Rattle.ds_cmd.specs.declared.accept.AcceptJob.{AcceptJob}
use Rattle.ds_cmd.specs.declared.graph.GraphJob.{GraphJob}
use Rattle.ds_cmd.specs.declared.list_clusters.ClustersJob.{ClustersJob}
use Rattle.ds_cmd.specs.declared.period.PeriodJob.{PeriodJob}
use Rattle.ds_cmd.specs.declared.rate.RateJob.{RateJob}
use Rattle.ds_cmd.specs.declared.replay.ReplayJob.{ReplayJob}
use Rattle.ds_cmd.specs.declared.run.RunJob.{RunJob}
use Rattle.ds_cmd.specs.declared.times.TimesJob.{TimesJob}
use Rattle.ds_stage.specs.Stage.{then_stage}
use Rattle.ds_stage.specs.Stages.{netlist_stage, report_stage, trace_stage, vectors_stage}
use Rattle.ds_stage.specs.StreamStage.{most_vectors, streamed_stage}
use Rattle.ds_stage.specs.ClustersStage.{clustered_stage, listed_stage}
use Rattle.ds_stage.specs.SplitStage.{split_stage}
use Rattle.ds_latch.specs.Node.{Split, slackened}
use Rattle.ds_latch.specs.Plan.{Planned}
use Rattle.ds_stage.specs.GraphStage.{controller_stage}
use Rattle.ds_stage.specs.PlanStage.{planned_stage}
use Rattle.ds_stage.specs.AcceptStage.{ranks_stage}
use Rattle.ds_app.specs.RunStage.{planned_run_stage, stopped_stage, traced_stage}
use Rattle.ds_app.specs.Job.{run_stage, stages_of}
use Rattle.ds_app.specs.JobStages.{accept_stage, clock_stage, graph_stage, listing_stage, period_stage, rate_stage, replay_stage, times_stage}
use Rattle.ds_stage.specs.ReplayStage.{replayed_stage}
use Rattle.ds_stage.specs.PeriodStage.{timed_stage}
use Rattle.ds_stage.specs.RateStage.{bare_graph_stage}
use Rattle.ds_stage.specs.TimesStage.{scheduled_stage}
use Rattle.ds_app.specs.Status.{AreTold, IsToldIn}
use Rattle.ds_stage.proofs.LogStages.{replayed_not_refused}
use Rattle.ds_stage.proofs.PeriodStages.{timed_not_refused}
use Rattle.ds_stage.proofs.RateStages.{bare_exclusive}
use Rattle.ds_stage.proofs.TimesStages.{scheduled_not_refused}
use Rattle.ds_stage.proofs.Expansions.{controller_not_refused}
use Rattle.ds_stage.proofs.ExclusiveStages.{lines_exclusive, netlist_exclusive, then_not_refused, vectors_exclusive}
use Rattle.ds_stage.proofs.Streamed.{streamed_exclusive}
use Rattle.ds_stage.proofs.PlanExclusive.{clustered_exclusive, planned_exclusive, split_exclusive}

-- where the files of a job tell what they hold, so does a graph's that is named
pub told_file : (held : List ℕ → Held) (graph : Option (List ℕ)) → IsToldIn held graph → (file : List ℕ) → graph ≡ Some file → held file ≢ untold
told_file held None told file is = cc
told_file held (Some name) told file is = subst (λ (f : Option (List ℕ)). IsToldIn held f) is told

clock_not_refused : (held : List ℕ → Held) (vec : List ℕ) → held vec ≢ untold → (c : Circuit) (text line : List ℕ)
    → (clock_stage held vec c).means text → ¬ (clock_stage held vec c).refused line
clock_not_refused held vec told c text line means refused =
    then_not_refused (streamed_stage held vec (most_vectors false) c) (trace_stage c) (streamed_exclusive held vec (most_vectors false) c told) (λ rows b l is none. none) text line means refused

fired_not_refused : (held : List ℕ → Held) (vec : List ℕ) (log : Bool) (jobs : ℕ) (stop : Option ℕ) → held vec ≢ untold
    → (c : Circuit) (p : Planned) (text line : List ℕ) → (planned_run_stage held vec log jobs stop c p).means text → ¬ (planned_run_stage held vec log jobs stop c p).refused line
fired_not_refused held vec log jobs None told c p text line means refused =
    then_not_refused (streamed_stage held vec (most_vectors log) c) (traced_stage log c p) (streamed_exclusive held vec (most_vectors log) c told) (λ rows t k means none. none) text line means refused
fired_not_refused held vec log jobs (Some stop) told c p text line means refused =
    then_not_refused (vectors_stage held vec c) (stopped_stage log jobs stop c p) (vectors_exclusive held vec c told) (λ rows t k means none. none) text line means refused

run_not_refused : OneGroupedClustering → (held : List ℕ → Held) (job : RunJob) → held job.vec ≢ untold → IsToldIn held job.graph → IsToldIn held job.groups
    → (c : Circuit) (text line : List ℕ) → (run_stage held job c).means text → ¬ (run_stage held job c).refused line
run_not_refused law held job told named grouped c text line means refused =
    then_not_refused (planned_stage held job.net job.graph job.groups job.clusters job.slack c) (planned_run_stage held job.vec job.log job.jobs job.stop c) (planned_exclusive law held job.net job.graph job.groups job.clusters job.slack (told_file held job.graph named) (told_file held job.groups grouped) c)
    (fired_not_refused held job.vec job.log job.jobs job.stop told c) text line means refused

graph_not_refused : OneGroupedClustering → (held : List ℕ → Held) (job : GraphJob) → IsToldIn held job.groups → (c : Circuit) (text line : List ℕ) → (graph_stage held job c).means text → ¬ (graph_stage held job c).refused line
graph_not_refused law held job grouped c text line means refused =
    then_not_refused (split_stage held job.net job.groups job.clusters c) (λ (s : Split). controller_stage job.net job.shake (slackened s job.slack)) (split_exclusive law held job.net job.groups job.clusters (told_file held job.groups grouped) c)
    (λ s. controller_not_refused job.net faults_are_refused_lem job.shake (slackened s job.slack)) text line means refused

replay_not_refused : OneGroupedClustering → (held : List ℕ → Held) (job : ReplayJob)
    → held job.vec ≢ untold → held job.log ≢ untold → IsToldIn held job.graph → IsToldIn held job.groups → (c : Circuit) (text line : List ℕ)
    → (replay_stage held job c).means text → ¬ (replay_stage held job c).refused line
replay_not_refused law held job told logged named grouped c text line means refused =
    then_not_refused (planned_stage held job.net job.graph job.groups job.clusters job.slack c) (λ (p : Planned). then_stage (vectors_stage held job.vec c) (λ (vectors : Rows). replayed_stage held job.log job.transparent p vectors.rows))
    (planned_exclusive law held job.net job.graph job.groups job.clusters job.slack (told_file held job.graph named) (told_file held job.groups grouped) c)
    (λ p b l is bad. then_not_refused (vectors_stage held job.vec c) (λ (vectors : Rows). replayed_stage held job.log job.transparent p vectors.rows) (vectors_exclusive held job.vec c told)
    (λ vectors t k means bad. replayed_not_refused held job.log job.transparent (lines_exclusive held Log job.log logged) p vectors.rows t k means bad) b l is bad)
    text line means refused

accept_not_refused : OneGroupedClustering → (held : List ℕ → Held) (job : AcceptJob) → held job.graph ≢ untold → IsToldIn held job.groups → (c : Circuit) (text line : List ℕ)
    → (accept_stage held job c).means text → ¬ (accept_stage held job c).refused line
accept_not_refused law held job named grouped c text line means refused =
    then_not_refused (planned_stage held job.net (Some job.graph) job.groups job.clusters job.slack c) ranks_stage (planned_exclusive law held job.net (Some job.graph) job.groups job.clusters job.slack (told_file held (Some job.graph) named) (told_file held job.groups grouped) c)
    (λ p b l is none. none) text line means refused

period_not_refused : OneGroupedClustering → (held : List ℕ → Held) (job : PeriodJob) → held job.delays ≢ untold → IsToldIn held job.graph → IsToldIn held job.groups → (c : Circuit) (text line : List ℕ)
    → (period_stage held job c).means text → ¬ (period_stage held job c).refused line
period_not_refused law held job told named grouped c text line means refused =
    then_not_refused (planned_stage held job.net job.graph job.groups job.clusters job.slack c) (λ (p : Planned). timed_stage held job.delays p.graph)
    (planned_exclusive law held job.net job.graph job.groups job.clusters job.slack (told_file held job.graph named) (told_file held job.groups grouped) c)
    (λ p b l is bad. timed_not_refused held job.delays told p.graph b l is bad) text line means refused

listing_not_refused : OneGroupedClustering → (held : List ℕ → Held) (job : ClustersJob) → IsToldIn held job.groups → (c : Circuit) (text line : List ℕ)
    → (listing_stage held job c).means text → ¬ (listing_stage held job c).refused line
listing_not_refused law held job grouped c text line means refused =
    then_not_refused (clustered_stage held job.net job.groups job.clusters c) (listed_stage c)
    (clustered_exclusive law held job.net job.groups job.clusters (told_file held job.groups grouped) c) (λ clusters b l is none. none) text line means refused

rate_not_refused : (held : List ℕ → Held) (job : RateJob) → held job.graph ≢ untold → held job.delays ≢ untold → (text line : List ℕ)
    → (rate_stage held job).means text → ¬ (rate_stage held job).refused line
rate_not_refused held job named told text line means refused =
    then_not_refused (bare_graph_stage held job.graph) (timed_stage held job.delays) (bare_exclusive held job.graph named)
    (λ g b l is bad. timed_not_refused held job.delays told g b l is bad) text line means refused

times_not_refused : OneGroupedClustering → (held : List ℕ → Held) (job : TimesJob) → held job.delays ≢ untold → IsToldIn held job.graph → IsToldIn held job.groups → (c : Circuit) (text line : List ℕ)
    → (times_stage held job c).means text → ¬ (times_stage held job c).refused line
times_not_refused law held job told named grouped c text line means refused =
    then_not_refused (planned_stage held job.net job.graph job.groups job.clusters job.slack c) (λ (p : Planned). scheduled_stage held job.delays job.turns p.graph)
    (planned_exclusive law held job.net job.graph job.groups job.clusters job.slack (told_file held job.graph named) (told_file held job.groups grouped) c)
    (λ p b l is bad. scheduled_not_refused held job.delays job.turns p.graph told b l is bad) text line means refused

-- a job that has a text is not refused
pub job_not_refused : FaultsAreRefused → OneGroupedClustering → (held : List ℕ → Held) (job : Job) → AreTold held job → (text line : List ℕ)
    → (stages_of held job).means text → ¬ (stages_of held job).refused line
job_not_refused law one held (Run job) told text line means refused =
    then_not_refused (netlist_stage held job.net) (run_stage held job) (netlist_exclusive law held job.net told.0) (run_not_refused one held job told.1 told.2 told.3) text line means refused
job_not_refused law one held (Clock job) told text line means refused =
    then_not_refused (netlist_stage held job.net) (clock_stage held job.vec) (netlist_exclusive law held job.net told.0) (clock_not_refused held job.vec told.1) text line means refused
job_not_refused law one held (Check net) told text line means refused =
    then_not_refused (netlist_stage held net) report_stage (netlist_exclusive law held net told) (λ c b l is none. none) text line means refused
job_not_refused law one held (Graph job) told text line means refused =
    then_not_refused (netlist_stage held job.net) (graph_stage held job) (netlist_exclusive law held job.net told.0) (graph_not_refused one held job told.1) text line means refused
job_not_refused law one held (Replay job) told text line means refused =
    then_not_refused (netlist_stage held job.net) (replay_stage held job) (netlist_exclusive law held job.net told.0) (replay_not_refused one held job told.1 told.2 told.3 told.4) text line means refused
job_not_refused law one held (Accept job) told text line means refused =
    then_not_refused (netlist_stage held job.net) (accept_stage held job) (netlist_exclusive law held job.net told.0) (accept_not_refused one held job told.1 told.2) text line means refused
job_not_refused law one held (Demo job) told text line means none = absurd none
job_not_refused law one held (Period job) told text line means refused =
    then_not_refused (netlist_stage held job.net) (period_stage held job) (netlist_exclusive law held job.net told.0) (period_not_refused one held job told.1 told.2 told.3) text line means refused
job_not_refused law one held (Clusters job) told text line means refused =
    then_not_refused (netlist_stage held job.net) (listing_stage held job) (netlist_exclusive law held job.net told.0) (listing_not_refused one held job told.1) text line means refused
job_not_refused law one held (Rate job) told text line means refused = rate_not_refused held job told.0 told.1 text line means refused
job_not_refused law one held (Times job) told text line means refused =
    then_not_refused (netlist_stage held job.net) (times_stage held job) (netlist_exclusive law held job.net told.0) (times_not_refused one held job told.1 told.2 told.3) text line means refused
