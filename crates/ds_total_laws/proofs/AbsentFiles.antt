-- A job one of whose files is not there gives no text, and writes none.
use Rattle.std.proofs.Common.{◌≡◌, ℕ, zero, suc, ◌≤◌, Bool, List, Option, None, Some, Ok, length, inl, inr, refl, arith, subst}
use Rattle.ds_base.specs.declared.number.Mode.{Mode}
use Rattle.ds_outside.specs.Held.{Held, untold, absent, bytes}
use Rattle.ds_outside.specs.declared.files.Which.{Which}
use Rattle.ds_outside.specs.declared.files.Which.TheVariants.{Net, Vectors, Log, Delays}
use Rattle.ds_outside.specs.declared.files.Which.TheVariants as which
use Rattle.ds_design.specs.Circuit.{Circuit, columns}
use Rattle.ds_design.specs.Rows.{Rows}
use Rattle.ds_marked.specs.Graph.{Graph as Marked}
use Rattle.ds_latch.specs.Node.{Split, slackened}
use Rattle.ds_latch.specs.Plan.{Planned}
use Rattle.ds_cmd.specs.Line.{job_of}
use Rattle.ds_cmd.specs.declared.job.Job.{Job}
use Rattle.ds_cmd.specs.declared.job.Job.TheVariants.{Run, Clock, Check, Graph, Replay, Accept, Demo, Period, Clusters, Rate, Times}
use Rattle.ds_replay.specs.ReplayText.{IsReplayText}
use Rattle.ds_stage.specs.declared.stop.Stop.TheVariants.{Unwritten}
use Rattle.ds_stage.specs.Ends.{RoseIn}
use Rattle.ds_stage.specs.Stage.{OfFile, Stage, giving, then_stage}
use Rattle.ds_stage.specs.Stages.{OfBytes, accepted_stage, design_stage, file_stage, lines_stage, netlist_stage, report_stage, rows_stage, trace_stage, vectors_stage}
use Rattle.ds_stage.specs.StreamStage.{gives_held, leaves_held, most_vectors, streamed_stage}
use Rattle.ds_stage.specs.SplitStage.{parted_stage, split_stage}
use Rattle.ds_stage.specs.ClustersStage.{clustered_stage, clusters_stage, listed_stage}
use Rattle.ds_stage.specs.GraphStage.{controller_stage}
use Rattle.ds_stage.specs.GroupsStage.{grouped_stage, groups_stage}
use Rattle.ds_stage.specs.PlanStage.{marked_stage, plan_stage, planned_stage}
use Rattle.ds_stage.specs.AcceptStage.{ranks_stage}
use Rattle.ds_stage.specs.ReplayStage.{fired_stage, log_stage, replayed_stage}
use Rattle.ds_stage.specs.PeriodStage.{IsPeriodText, delays_stage, given_stage, timed_stage}
use Rattle.ds_stage.specs.RateStage.{bare_graph_stage, bare_stage}
use Rattle.ds_stage.specs.TimesStage.{IsTimesText, scheduled_stage}
use Rattle.ds_stage.proofs.RateStages.{bare_nothing}
use Rattle.ds_stage.proofs.StagesLeaveNothing.{LeavesNothing, netlist_nothing, planned_nothing, split_nothing, vectors_nothing}
use Rattle.ds_app.specs.Job.{run_stage, stages_of}
use Rattle.ds_app.specs.JobStages.{accept_stage, clock_stage, graph_stage, listing_stage, period_stage, replay_stage, times_stage}
use Rattle.ds_app.specs.RunStage.{planned_run_stage, stopped_stage, traced_stage}
use Rattle.ds_app.specs.Status.{Call, IsDone, IsNoLine, IsUnwritten}
use Rattle.ds_total_laws.specs.Absent.{AbsentFilesAreUnread, IsAbsentIn, LacksFile}

-- a stage gives nothing, and no write fails in it
record IsMute {A : Type 0} (stage : Stage A) : Type 1 where
  pub gives : (a : A) → ¬ stage.means a
  pub writes : (failed : OfFile) (text : List ℕ) → ¬ stage.leaves failed Unwritten text

-- where nothing stands, no bytes are held
none_held : (h : Held) (P : List ℕ → Type 0) → h ≡ absent → ¬ OfBytes h P
none_held untold P gone is = cc
none_held absent P gone is = is
none_held (bytes text) P gone is = cc

lines_mute : (held : List ℕ → Held) (which : Which) (name : List ℕ) → held name ≡ absent → IsMute (lines_stage held which name)
lines_mute held which name gone = record {
  gives = λ lines is. none_held (held name) _ gone is;
  writes = λ failed text none. none;
}

-- a first stage that is mute makes both mute
mute_first : {A B : Type 0} (first : Stage A) (next : A → Stage B) → IsMute first → IsMute (then_stage first next)
mute_first first next mute = record {
  gives = λ b both. let (a, is, more) = both in mute.gives a is;
  writes = λ failed text either. elim either [
    | inl (may, left) ↦ mute.writes failed text left
    | inr (a, is, left) ↦ mute.gives a is
  ];
}

-- so does a later one, where the first leaves nothing
mute_next : {A B : Type 0} (first : Stage A) (next : A → Stage B) → LeavesNothing first → ((a : A) → IsMute (next a)) → IsMute (then_stage first next)
mute_next first next nothing mute = record {
  gives = λ b both. let (a, is, more) = both in (mute a).gives b more;
  writes = λ failed text either. elim either [
    | inl (may, left) ↦ nothing.only failed Unwritten text left
    | inr (a, is, left) ↦ (mute a).writes failed text left
  ];
}

netlist_mute : (held : List ℕ → Held) (net : List ℕ) → held net ≡ absent → IsMute (netlist_stage held net)
netlist_mute held net gone =
    mute_first (file_stage held net) (accepted_stage net) (mute_first (lines_stage held Net net) (design_stage net) (lines_mute held Net net gone))

vectors_mute : (held : List ℕ → Held) (vec : List ℕ) (c : Circuit) → held vec ≡ absent → IsMute (vectors_stage held vec c)
vectors_mute held vec c gone =
    mute_first (lines_stage held Vectors vec) (rows_stage vec (length (columns c))) (lines_mute held Vectors vec gone)

-- nothing is given of a stream that is not there
none_given : (h : Held) (width most : ℕ) (rows : Rows) → h ≡ absent → ¬ gives_held h width most rows
none_given untold width most rows gone is = cc
none_given absent width most rows gone is = is
none_given (bytes text) width most rows gone is = cc

none_written : (h : Held) (c : Circuit) (most : ℕ) (text : List ℕ) → h ≡ absent → ¬ leaves_held h c most Unwritten text
none_written untold c most text gone is = cc
none_written absent c most text gone is = is
none_written (bytes held) c most text gone is = cc

streamed_mute : (held : List ℕ → Held) (vec : List ℕ) (most : ℕ) (c : Circuit) → held vec ≡ absent → IsMute (streamed_stage held vec most c)
streamed_mute held vec most c gone = record {
  gives = λ rows is. none_given (held vec) (length (columns c)) most rows gone is;
  writes = λ failed text left. none_written (held vec) c most text gone left;
}

-- groups that are not there
groups_mute : (held : List ℕ → Held) (groups : Option (List ℕ)) (c : Circuit) → IsAbsentIn held groups → IsMute (groups_stage held groups c)
groups_mute held None c gone = absurd gone
groups_mute held (Some file) c gone = mute_first (lines_stage held which.Groups file) (grouped_stage file c) (lines_mute held which.Groups file gone)

split_mute : (held : List ℕ → Held) (net : List ℕ) (groups : Option (List ℕ)) (mode : Mode) (c : Circuit) → IsAbsentIn held groups → IsMute (split_stage held net groups mode c)
split_mute held net groups mode c gone = mute_first (groups_stage held groups c) (parted_stage net mode c) (groups_mute held groups c gone)

-- the plan of groups or of a graph that are not there
grouped_mute : (held : List ℕ → Held) (net : List ℕ) (graph groups : Option (List ℕ)) (mode : Mode) (slack : ℕ) (c : Circuit) → IsAbsentIn held groups
    → IsMute (planned_stage held net graph groups mode slack c)
grouped_mute held net graph groups mode slack c gone =
    mute_first (split_stage held net groups mode c) (λ (s : Split). plan_stage held graph (slackened s slack)) (split_mute held net groups mode c gone)

planned_mute : (held : List ℕ → Held) (net : List ℕ) (graph groups : Option (List ℕ)) (mode : Mode) (slack : ℕ) (c : Circuit) → IsAbsentIn held graph
    → IsMute (planned_stage held net graph groups mode slack c)
planned_mute held net None groups mode slack c gone = absurd gone
planned_mute held net (Some file) groups mode slack c gone =
    mute_next (split_stage held net groups mode c) (λ (s : Split). plan_stage held (Some file) (slackened s slack)) (split_nothing held net groups mode c)
    (λ s. mute_first (lines_stage held which.Graph file) (marked_stage file (slackened s slack)) (lines_mute held which.Graph file gone))

-- the run of vectors that are not there
run_mute : (held : List ℕ → Held) (vec : List ℕ) (log : Bool) (jobs : ℕ) (stop : Option ℕ) (c : Circuit) (p : Planned) → held vec ≡ absent
    → IsMute (planned_run_stage held vec log jobs stop c p)
run_mute held vec log jobs None c p gone =
    mute_first (streamed_stage held vec (most_vectors log) c) (traced_stage log c p) (streamed_mute held vec (most_vectors log) c gone)
run_mute held vec log jobs (Some stop) c p gone =
    mute_first (vectors_stage held vec c) (stopped_stage log jobs stop c p) (vectors_mute held vec c gone)

-- what stands behind a plan
abbrev logged : (List ℕ → Held) → List ℕ → List ℕ → Bool → Circuit → Planned → Stage (List ℕ)
logged held vec log transparent c p =
    then_stage (vectors_stage held vec c) (λ (vectors : Rows). replayed_stage held log transparent p vectors.rows)

-- a log that is not there
log_mute : (held : List ℕ → Held) (vec log : List ℕ) (transparent : Bool) (c : Circuit) (p : Planned) → held log ≡ absent
    → IsMute (logged held vec log transparent c p)
log_mute held vec log transparent c p gone =
    mute_next (vectors_stage held vec c) (λ (vectors : Rows). replayed_stage held log transparent p vectors.rows) (vectors_nothing held vec c)
    (λ vectors. mute_first (log_stage held log p vectors.rows) (λ (events : List ℕ). giving (IsReplayText transparent p vectors.rows events))
    (mute_first (lines_stage held Log log) (fired_stage log p vectors.rows) (lines_mute held Log log gone)))

-- delays that are not there
timed_mute : (held : List ℕ → Held) (file : List ℕ) (g : Marked) → held file ≡ absent → IsMute (timed_stage held file g)
timed_mute held file g gone =
    mute_first (delays_stage held file g) (λ (delays : List ℕ). giving (IsPeriodText g delays))
    (mute_first (lines_stage held Delays file) (given_stage file g) (lines_mute held Delays file gone))

scheduled_mute : (held : List ℕ → Held) (file : List ℕ) (turns : ℕ) (g : Marked) → held file ≡ absent → IsMute (scheduled_stage held file turns g)
scheduled_mute held file turns g gone =
    mute_first (delays_stage held file g) (λ (delays : List ℕ). giving (IsTimesText g delays turns))
    (mute_first (lines_stage held Delays file) (given_stage file g) (lines_mute held Delays file gone))

-- a job one of whose files is not there
job_mute : (held : List ℕ → Held) (job : Job) → LacksFile held job → IsMute (stages_of held job)
job_mute held (Run job) (inl net) = mute_first (netlist_stage held job.net) (run_stage held job) (netlist_mute held job.net net)
job_mute held (Run job) (inr (inl vec)) =
    mute_next (netlist_stage held job.net) (run_stage held job) (netlist_nothing held job.net) (λ c.
    mute_next (planned_stage held job.net job.graph job.groups job.clusters job.slack c) (planned_run_stage held job.vec job.log job.jobs job.stop c)
    (planned_nothing held job.net job.graph job.groups job.clusters job.slack c) (λ p. run_mute held job.vec job.log job.jobs job.stop c p vec))
job_mute held (Run job) (inr (inr (inl graph))) =
    mute_next (netlist_stage held job.net) (run_stage held job) (netlist_nothing held job.net) (λ c.
    mute_first (planned_stage held job.net job.graph job.groups job.clusters job.slack c) (planned_run_stage held job.vec job.log job.jobs job.stop c)
    (planned_mute held job.net job.graph job.groups job.clusters job.slack c graph))
job_mute held (Run job) (inr (inr (inr groups))) =
    mute_next (netlist_stage held job.net) (run_stage held job) (netlist_nothing held job.net) (λ c.
    mute_first (planned_stage held job.net job.graph job.groups job.clusters job.slack c) (planned_run_stage held job.vec job.log job.jobs job.stop c)
    (grouped_mute held job.net job.graph job.groups job.clusters job.slack c groups))
job_mute held (Clock job) (inl net) = mute_first (netlist_stage held job.net) (clock_stage held job.vec) (netlist_mute held job.net net)
job_mute held (Clock job) (inr vec) =
    mute_next (netlist_stage held job.net) (clock_stage held job.vec) (netlist_nothing held job.net) (λ c.
    mute_first (streamed_stage held job.vec 4294967295 c) (trace_stage c) (streamed_mute held job.vec 4294967295 c vec))
job_mute held (Check net) gone = mute_first (netlist_stage held net) report_stage (netlist_mute held net gone)
job_mute held (Graph job) (inl net) = mute_first (netlist_stage held job.net) (graph_stage held job) (netlist_mute held job.net net)
job_mute held (Graph job) (inr groups) =
    mute_next (netlist_stage held job.net) (graph_stage held job) (netlist_nothing held job.net) (λ c.
    mute_first (split_stage held job.net job.groups job.clusters c) (λ (s : Split). controller_stage job.net job.shake (slackened s job.slack))
    (split_mute held job.net job.groups job.clusters c groups))
job_mute held (Replay job) (inl net) = mute_first (netlist_stage held job.net) (replay_stage held job) (netlist_mute held job.net net)
job_mute held (Replay job) (inr (inl vec)) =
    mute_next (netlist_stage held job.net) (replay_stage held job) (netlist_nothing held job.net) (λ c.
    mute_next (planned_stage held job.net job.graph job.groups job.clusters job.slack c) (logged held job.vec job.log job.transparent c)
    (planned_nothing held job.net job.graph job.groups job.clusters job.slack c) (λ p.
    mute_first (vectors_stage held job.vec c) (λ (vectors : Rows). replayed_stage held job.log job.transparent p vectors.rows)
    (vectors_mute held job.vec c vec)))
job_mute held (Replay job) (inr (inr (inl log))) =
    mute_next (netlist_stage held job.net) (replay_stage held job) (netlist_nothing held job.net) (λ c.
    mute_next (planned_stage held job.net job.graph job.groups job.clusters job.slack c) (logged held job.vec job.log job.transparent c)
    (planned_nothing held job.net job.graph job.groups job.clusters job.slack c) (λ p. log_mute held job.vec job.log job.transparent c p log))
job_mute held (Replay job) (inr (inr (inr (inl graph)))) =
    mute_next (netlist_stage held job.net) (replay_stage held job) (netlist_nothing held job.net) (λ c.
    mute_first (planned_stage held job.net job.graph job.groups job.clusters job.slack c) (logged held job.vec job.log job.transparent c)
    (planned_mute held job.net job.graph job.groups job.clusters job.slack c graph))
job_mute held (Replay job) (inr (inr (inr (inr groups)))) =
    mute_next (netlist_stage held job.net) (replay_stage held job) (netlist_nothing held job.net) (λ c.
    mute_first (planned_stage held job.net job.graph job.groups job.clusters job.slack c) (logged held job.vec job.log job.transparent c)
    (grouped_mute held job.net job.graph job.groups job.clusters job.slack c groups))
job_mute held (Accept job) (inl net) = mute_first (netlist_stage held job.net) (accept_stage held job) (netlist_mute held job.net net)
job_mute held (Accept job) (inr (inl graph)) =
    mute_next (netlist_stage held job.net) (accept_stage held job) (netlist_nothing held job.net) (λ c.
    mute_first (planned_stage held job.net (Some job.graph) job.groups job.clusters job.slack c) ranks_stage
    (planned_mute held job.net (Some job.graph) job.groups job.clusters job.slack c graph))
job_mute held (Accept job) (inr (inr groups)) =
    mute_next (netlist_stage held job.net) (accept_stage held job) (netlist_nothing held job.net) (λ c.
    mute_first (planned_stage held job.net (Some job.graph) job.groups job.clusters job.slack c) ranks_stage
    (grouped_mute held job.net (Some job.graph) job.groups job.clusters job.slack c groups))
job_mute held (Demo job) none = absurd none
job_mute held (Period job) (inl net) = mute_first (netlist_stage held job.net) (period_stage held job) (netlist_mute held job.net net)
job_mute held (Period job) (inr (inl delays)) =
    mute_next (netlist_stage held job.net) (period_stage held job) (netlist_nothing held job.net) (λ c.
    mute_next (planned_stage held job.net job.graph job.groups job.clusters job.slack c) (λ (p : Planned). timed_stage held job.delays p.graph)
    (planned_nothing held job.net job.graph job.groups job.clusters job.slack c) (λ p. timed_mute held job.delays p.graph delays))
job_mute held (Period job) (inr (inr (inl graph))) =
    mute_next (netlist_stage held job.net) (period_stage held job) (netlist_nothing held job.net) (λ c.
    mute_first (planned_stage held job.net job.graph job.groups job.clusters job.slack c) (λ (p : Planned). timed_stage held job.delays p.graph)
    (planned_mute held job.net job.graph job.groups job.clusters job.slack c graph))
job_mute held (Period job) (inr (inr (inr groups))) =
    mute_next (netlist_stage held job.net) (period_stage held job) (netlist_nothing held job.net) (λ c.
    mute_first (planned_stage held job.net job.graph job.groups job.clusters job.slack c) (λ (p : Planned). timed_stage held job.delays p.graph)
    (grouped_mute held job.net job.graph job.groups job.clusters job.slack c groups))
job_mute held (Clusters job) (inl net) = mute_first (netlist_stage held job.net) (listing_stage held job) (netlist_mute held job.net net)
job_mute held (Clusters job) (inr groups) =
    mute_next (netlist_stage held job.net) (listing_stage held job) (netlist_nothing held job.net) (λ c.
    mute_first (clustered_stage held job.net job.groups job.clusters c) (listed_stage c)
    (mute_first (groups_stage held job.groups c) (clusters_stage job.net job.clusters c) (groups_mute held job.groups c groups)))
job_mute held (Rate job) (inl graph) =
    mute_first (bare_graph_stage held job.graph) (timed_stage held job.delays)
    (mute_first (lines_stage held which.Graph job.graph) (bare_stage job.graph) (lines_mute held which.Graph job.graph graph))
job_mute held (Rate job) (inr delays) =
    mute_next (bare_graph_stage held job.graph) (timed_stage held job.delays) (bare_nothing held job.graph) (λ g. timed_mute held job.delays g delays)
job_mute held (Times job) (inl net) = mute_first (netlist_stage held job.net) (times_stage held job) (netlist_mute held job.net net)
job_mute held (Times job) (inr (inl delays)) =
    mute_next (netlist_stage held job.net) (times_stage held job) (netlist_nothing held job.net) (λ c.
    mute_next (planned_stage held job.net job.graph job.groups job.clusters job.slack c) (λ (p : Planned). scheduled_stage held job.delays job.turns p.graph)
    (planned_nothing held job.net job.graph job.groups job.clusters job.slack c) (λ p. scheduled_mute held job.delays job.turns p.graph delays))
job_mute held (Times job) (inr (inr (inl graph))) =
    mute_next (netlist_stage held job.net) (times_stage held job) (netlist_nothing held job.net) (λ c.
    mute_first (planned_stage held job.net job.graph job.groups job.clusters job.slack c) (λ (p : Planned). scheduled_stage held job.delays job.turns p.graph)
    (planned_mute held job.net job.graph job.groups job.clusters job.slack c graph))
job_mute held (Times job) (inr (inr (inr groups))) =
    mute_next (netlist_stage held job.net) (times_stage held job) (netlist_nothing held job.net) (λ c.
    mute_first (planned_stage held job.net job.graph job.groups job.clusters job.slack c) (λ (p : Planned). scheduled_stage held job.delays job.turns p.graph)
    (grouped_mute held job.net job.graph job.groups job.clusters job.slack c groups))

-- words are those of one job
same_job : (words : List (List ℕ)) (one other : Job) → job_of words ≡ Ok one → job_of words ≡ Ok other → one ≡ other
same_job words one other is also = cc

module _ (call : Call) (job : Job) (is_job : job_of call.words ≡ Ok job) (lacks : LacksFile call.held job) where
  not_done : ¬ IsDone call
  not_done done =
      (job_mute call.held job lacks).gives done.text
      (subst (λ (j : Job). (stages_of call.held j).means done.text) (same_job call.words done.job job done.is_job is_job) done.is_text)

  not_no_line : ¬ IsNoLine call.words
  not_no_line (fault, is) = cc

  not_unwritten : ¬ IsUnwritten call
  not_unwritten stopped =
      let same : stopped.job ≡ job = same_job call.words stopped.job job stopped.is_job is_job in
      elim stopped.is_text [
        | inl means ↦ (job_mute call.held job lacks).gives stopped.text (subst (λ (j : Job). (stages_of call.held j).means stopped.text) same means)
        | inr leaves ↦
            (job_mute call.held job lacks).writes (RoseIn call.before call.now) stopped.text
            (subst (λ (j : Job). (stages_of call.held j).leaves (RoseIn call.before call.now) Unwritten stopped.text) same leaves)
      ]

-- the statuses other than 1, 3 and 4 are excluded
pub absent_files_are_unread : AbsentFilesAreUnread
absent_files_are_unread call zero answered job is lacks = absurd (not_done call job is lacks (answered.done refl))
absent_files_are_unread call (suc zero) answered job is lacks = inr (inr (refl, answered.refused refl))
absent_files_are_unread call (suc (suc zero)) answered job is lacks = absurd (not_no_line call job is lacks (answered.no_line refl).0)
absent_files_are_unread call (suc (suc (suc zero))) answered job is lacks = inl refl
absent_files_are_unread call (suc (suc (suc (suc zero)))) answered job is lacks = inr (inl refl)
absent_files_are_unread call (suc (suc (suc (suc (suc zero))))) answered job is lacks =
    absurd (not_unwritten call job is lacks (answered.unwritten refl))
absent_files_are_unread call (suc (suc (suc (suc (suc (suc status)))))) answered job is lacks =
    absurd (let known : suc (suc (suc (suc (suc (suc status))))) ≤ 5 = answered.known in omega (arith, known))
