-- What a job prints is one text.
use Rattle.std.proofs.Common.{◌≡◌, ◌≢◌, ◌∙◌, ℕ, ◌+◌, ◌≤◌, Bool, true, false, List, ◌++◌, length, get_or, Option, None, Some, arith, ap, ap₂, sym, subst}
use Rattle.std.proofs.lemmas.List.FromFn.{get_or-range_with_len, length-range_with_len}
use Rattle.std.specs.List.{range_with_len}
use Rattle.std.specs.Prelude.{sum_by}
use Rattle.ds_base.proofs.ListLemmas.{map_agree}
use Rattle.ds_base.specs.Values.{Row}
use Rattle.ds_cover.specs.Cover.{values_at}
use Rattle.ds_outside.specs.Held.{Held, untold}
use Rattle.ds_design.specs.Accepted.{IsAccepted}
use Rattle.ds_design.specs.Circuit.{Circuit, initial_row}
use Rattle.ds_design.specs.Run.{IsRun}
use Rattle.ds_design.specs.Trace.{IsTrace, end_line, trace_line}
use Rattle.ds_design.proofs.ClockedRuns.{one_run}
use Rattle.ds_demo.specs.Demo.{demo_design, demo_vectors, seed_words}
use Rattle.ds_demo.specs.Fold.{fold_of}
use Rattle.ds_demo.proofs.Accepts.{accepted, vectors_fit}
use Rattle.ds_netlist.specs.Laws.{FaultsAreRefused}
use Rattle.ds_netlist.proofs.OneLevel.{one_depth}
use Rattle.ds_split.specs.Laws.{OneGroupedClustering}
use Rattle.ds_latch.specs.Node.{Split, slackened}
use Rattle.ds_latch.specs.Plan.{Planned}
use Rattle.ds_marked.specs.Graph.{Graph}
use Rattle.ds_rank.proofs.OneRanking.{one_list_of_ranks_lem}
use Rattle.ds_shake.proofs.OneExpansion.{one_expansion_lem}
use Rattle.ds_cmd.specs.Allowed.{AreAllowed}
use Rattle.ds_cmd.specs.declared.job.Job.{Job}
use Rattle.ds_cmd.specs.declared.job.Job.TheVariants.{Run, Clock, Check, Graph as GraphCommand, Replay, Accept, Demo, Period, Clusters, Rate, Times}
use Rattle.ds_stage.specs.AcceptStage.{ranks_stage, ranks_text}
use Rattle.ds_stage.specs.GraphStage.{controller_stage, drawn_stage, wanted_stage}
use Rattle.ds_stage.specs.PlanStage.{planned_stage}
use Rattle.ds_stage.specs.Report.{report_text}
use Rattle.ds_stage.specs.Stage.{Stage, then_stage}
use Rattle.ds_stage.specs.Stages.{netlist_stage, report_stage, trace_stage}
use Rattle.ds_stage.specs.ClustersStage.{clustered_stage, listed_stage}
use Rattle.ds_stage.specs.SplitStage.{split_stage}
use Rattle.ds_stage.specs.StreamStage.{most_vectors, streamed_stage}
use Rattle.ds_stage.specs.PeriodStage.{delays_stage}
use Rattle.ds_stage.specs.TimesStage.{scheduled_stage}
use Rattle.ds_stage.proofs.PeriodStages.{delays_exclusive}
use Rattle.ds_stage.proofs.TimesStages.{last_times_stage}
use Rattle.ds_stage.proofs.ExclusiveStages.{netlist_exclusive}
use Rattle.ds_stage.proofs.OneGraph.{one_graph}
use Rattle.ds_stage.proofs.PlanAccepted.{planned_circuit, planned_is_plan}
use Rattle.ds_stage.proofs.PlanExclusive.{clustered_exclusive, planned_exclusive, split_exclusive}
use Rattle.ds_stage.proofs.Streamed.{streamed_exclusive}
use Rattle.ds_run.specs.Summed.{ones_in, ones_of}
use Rattle.ds_app.specs.DemoStage.{IsSummary, summary_text}
use Rattle.ds_app.specs.Job.{run_stage, stages_of}
use Rattle.ds_app.specs.JobStages.{accept_stage, clock_stage, graph_stage, listing_stage, times_stage}
use Rattle.ds_app.specs.RunStage.{planned_run_stage, traced_stage}
use Rattle.ds_app.specs.Status.{AreTold}
use Rattle.ds_app.proofs.ExclusiveJobs.{told_file}
use Rattle.ds_laws.specs.OneText.{IsDetermined, JobsHaveOneText, RunsPrintTheClockedTrace}
use Rattle.ds_laws.proofs.OneReplayText.{replay_has_one_text}
use Rattle.ds_laws.proofs.OneState.{texts_agree}
use Rattle.ds_laws.proofs.OneTimes.{one_times_text}

-- a stage gives one thing at most
abbrev GivesOne : {A : Type 0} → Stage A → Type 0
GivesOne {A} stage = (a b : A) → stage.means a → stage.means b → b ≡ a

-- so does one after another
then_one : {A B : Type 0} (first : Stage A) (next : A → Stage B) → ((a b : A) → first.means a → first.means b → a ≡ b)
    → ((a : A) → first.means a → GivesOne (next a)) → GivesOne (then_stage first next)
then_one {A} {B} first next one each x y (a, is, gives) (b, also, more) =
    each a is x y gives (subst (λ (c : A). (next c).means y) (one b a also is) more)

-- a trace
module _ (c : Circuit) (accepts : IsAccepted c) (vectors : List Row) where
  pub trace_one : (text other : List ℕ) → IsTrace c vectors text → IsTrace c vectors other → other ≡ text
  trace_one text other is also =
      let a = is.is_trace in
      let b = also.is_trace in
      let n : ℕ = length vectors in
      let same = one_run c accepts (initial_row c) vectors b.state b.nets a.state a.nets b.run a.run in
      let lines : also.lines ≡ is.lines =
      b.spelt ∙ (texts_agree (λ k. trace_line (0 + k) (values_at (b.nets k) c.outputs) (b.state k)) (λ k. trace_line (0 + k) (values_at (a.nets k) c.outputs) (a.state k)) 0 n (λ k low.
      ap₂ (λ (nets state : Row). trace_line (0 + k) (values_at nets c.outputs) state) ((same k).1 (omega (arith, low))) ((same k).0 (omega (arith, low)))) ∙ sym a.spelt) in
      let last : also.last ≡ is.last = b.ends ∙ ((same n).0 (omega arith) ∙ sym a.ends) in
      also.spelt ∙ (ap₂ (λ (front : List ℕ) (row : Row). front ++ end_line row) lines last ∙ sym is.spelt)

  ones_one : (state nets state' nets' : ℕ → Row) → IsRun c (initial_row c) vectors state nets → IsRun c (initial_row c) vectors state' nets' → (turns : ℕ) → length vectors ≡ turns
      → ones_in c nets turns ≡ ones_in c nets' turns
  ones_one state nets state' nets' run run' turns size =
      ap (sum_by ones_of) (map_agree (λ k. values_at (nets k) c.outputs) (λ k. values_at (nets' k) c.outputs) (range_with_len 0 turns) (λ i d inside.
      let long : length (range_with_len 0 turns) ≡ turns = length-range_with_len 0 turns in
      let at : get_or (range_with_len 0 turns) i d ≡ 0 + i = get_or-range_with_len 0 turns i d (omega (arith, inside, long)) in
      ap (λ (row : Row). values_at row c.outputs) ((one_run c accepts (initial_row c) vectors state nets state' nets' run run' (get_or (range_with_len 0 turns) i d)).1 (omega (arith, at, inside, long, size)))))

-- the text of a run without a log, and of a clocked run
module _ (held : List ℕ → Held) (vec : List ℕ) (told : held vec ≢ untold) (c : Circuit) (accepts : IsAccepted c) where
  clock_one : GivesOne (clock_stage held vec c)
  clock_one = then_one (streamed_stage held vec (most_vectors false) c) (trace_stage c) ((streamed_exclusive held vec (most_vectors false) c told).one)
      (λ vectors read. trace_one c accepts vectors.rows)

  run_one : (log : Bool) (jobs : ℕ) (stop : Option ℕ) → log ≡ false → stop ≡ None → (p : Planned) → p.split.circuit ≡ c → GivesOne (planned_run_stage held vec log jobs stop c p)
  run_one true jobs stop is none p same = absurd (cc)
  run_one false jobs (Some stop) is none p same = absurd (cc)
  run_one false jobs None is none p same =
      then_one (streamed_stage held vec (most_vectors false) c) (traced_stage false c p) ((streamed_exclusive held vec (most_vectors false) c told).one)
      (λ vectors read text other gives also.
      trace_one c accepts vectors.rows text other
      (subst (λ (d : Circuit). IsTrace d vectors.rows text) same gives.1) (subst (λ (d : Circuit). IsTrace d vectors.rows other) same also.1))

-- a graph that is drawn
drawn_one : (s : Split) (g : Graph) → GivesOne (drawn_stage s g)
drawn_one s g text other is also = also ∙ sym is

wanted_one : (file : List ℕ) (shake : Bool) (s : Split) (g h : Graph) → (wanted_stage file shake s).means g → (wanted_stage file shake s).means h → g ≡ h
wanted_one file false s g h is also = one_graph s g h is also
wanted_one file true s g h is also = one_expansion_lem s g h is.kept also.kept is.expansion also.expansion

controller_one : (file : List ℕ) (shake : Bool) (s : Split) → GivesOne (controller_stage file shake s)
controller_one file shake s = then_one (wanted_stage file shake s) (drawn_stage s) (wanted_one file shake s) (λ g is. drawn_one s g)

-- ranks, a report, a summary
ranks_one : (p : Planned) → GivesOne (ranks_stage p)
ranks_one p text other (ranks, are, is) (others, also, spelt) =
    spelt ∙ (ap (ranks_text p.graph) (one_list_of_ranks_lem p.graph others ranks also are) ∙ sym is)

report_one : (c : Circuit) → IsAccepted c → GivesOne (report_stage c)
report_one c accepts text other (depth, is, spelt) (deep, also, so) =
    so ∙ (ap (report_text c) (one_depth c accepts deep depth also is) ∙ sym spelt)

demo_accepted : (seed registers : ℕ) → 1 ≤ registers → IsAccepted (demo_design seed registers)
unfolding demo_design
demo_accepted seed registers some = accepted registers (seed_words registers seed) some

summary_one : (seed registers turns : ℕ) → 1 ≤ registers → turns ≤ 65536 → (text other : List ℕ) → IsSummary seed registers turns text → IsSummary seed registers turns other → other ≡ text
summary_one seed registers turns some few text other is also =
    let c : Circuit = demo_design seed registers in
    let vectors : List Row = (demo_vectors seed registers turns).rows in
    let accepts : IsAccepted c = demo_accepted seed registers some in
    let size : length vectors ≡ turns = (vectors_fit seed registers turns few).one_a_turn in
    let ones : also.ones ≡ is.ones =
    also.sums.counted ∙ (ones_one c accepts vectors also.sums.state also.sums.nets is.sums.state is.sums.nets also.sums.run is.sums.run turns size ∙ sym is.sums.counted) in
    let fold : also.fold ≡ is.fold =
    also.sums.folded ∙ (ap fold_of (trace_one c accepts vectors is.sums.trace also.sums.trace is.sums.traced also.sums.traced) ∙ sym is.sums.folded) in
    also.spelt ∙ (ap₂ (summary_text registers turns) ones fold ∙ sym is.spelt)

-- so it is for each job
module _ (faults : FaultsAreRefused) (one : OneGroupedClustering) (held : List ℕ → Held) where
  behind_netlist : (net : List ℕ) → held net ≢ untold → (next : Circuit → Stage (List ℕ)) → ((c : Circuit) → (netlist_stage held net).means c → IsAccepted c → GivesOne (next c))
      → GivesOne (then_stage (netlist_stage held net) next)
  behind_netlist net told next each =
      then_one (netlist_stage held net) next ((netlist_exclusive faults held net told).one) (λ c is.
      let (flat, is_flat, (same, accepts)) = is in each c is (subst (λ (d : Circuit). IsAccepted d) (sym same) accepts))

  job_one : (job : Job) → AreAllowed job → AreTold held job → IsDetermined job → GivesOne (stages_of held job)
  job_one (Run job) allowed (told_net, told_vec, told, grouped) (log, stop) =
      behind_netlist job.net told_net (run_stage held job) (λ c is accepts.
      then_one (planned_stage held job.net job.graph job.groups job.clusters job.slack c) (planned_run_stage held job.vec job.log job.jobs job.stop c)
      ((planned_exclusive one held job.net job.graph job.groups job.clusters job.slack (told_file held job.graph told) (told_file held job.groups grouped) c).one)
      (λ p planned. run_one held job.vec told_vec c accepts job.log job.jobs job.stop log stop p (planned_circuit held job.net job.graph job.groups job.clusters job.slack c p planned)))
  job_one (Clock job) allowed (told_net, told_vec) determined =
      behind_netlist job.net told_net (clock_stage held job.vec) (λ c is accepts. clock_one held job.vec told_vec c accepts)
  job_one (Check net) allowed told determined = behind_netlist net told report_stage (λ c is accepts. report_one c accepts)
  job_one (GraphCommand job) allowed (told, grouped) determined =
      behind_netlist job.net told (graph_stage held job) (λ c is accepts.
      then_one (split_stage held job.net job.groups job.clusters c) (λ (s : Split). controller_stage job.net job.shake (slackened s job.slack)) ((split_exclusive one held job.net job.groups job.clusters (told_file held job.groups grouped) c).one)
      (λ s split. controller_one job.net job.shake (slackened s job.slack)))
  job_one (Replay job) allowed told determined = λ text other is also. replay_has_one_text faults one held job allowed told text other is also
  job_one (Accept job) allowed (told_net, told, grouped) determined =
      behind_netlist job.net told_net (accept_stage held job) (λ c is accepts.
      then_one (planned_stage held job.net (Some job.graph) job.groups job.clusters job.slack c) ranks_stage
      ((planned_exclusive one held job.net (Some job.graph) job.groups job.clusters job.slack (told_file held (Some job.graph) told) (told_file held job.groups grouped) c).one) (λ p planned. ranks_one p))
  job_one (Demo job) (some, few, turns, workers) told determined = λ text other is also. summary_one job.seed job.registers job.turns some turns text other is also
  job_one (Period job) allowed told determined = absurd determined
  job_one (Clusters job) allowed (told_net, grouped) determined =
      behind_netlist job.net told_net (listing_stage held job) (λ c is accepts.
      then_one (clustered_stage held job.net job.groups job.clusters c) (listed_stage c)
      ((clustered_exclusive one held job.net job.groups job.clusters (told_file held job.groups grouped) c).one) (λ clusters are text other is also. also ∙ sym is))
  job_one (Rate job) allowed told determined = absurd determined
  job_one (Times job) allowed (told_net, told_delays, told, grouped) determined =
      behind_netlist job.net told_net (times_stage held job) (λ c is accepts.
      then_one (planned_stage held job.net job.graph job.groups job.clusters job.slack c) (λ (p : Planned). scheduled_stage held job.delays job.turns p.graph)
      ((planned_exclusive one held job.net job.graph job.groups job.clusters job.slack (told_file held job.graph told) (told_file held job.groups grouped) c).one)
      (λ p planned. then_one (delays_stage held job.delays p.graph) (last_times_stage p.graph job.turns) ((delays_exclusive held job.delays told_delays p.graph).one)
      (λ delays are text other means also.
      one_times_text p.graph ((planned_is_plan held job.net job.graph job.groups job.clusters job.slack c p accepts planned).live) delays job.turns text other means also)))

pub jobs_have_one_text : FaultsAreRefused → OneGroupedClustering → JobsHaveOneText
jobs_have_one_text faults one held job allowed told determined text other is also = job_one faults one held job allowed told determined text other is also

-- what a run prints is the trace of the clocked run
pub runs_print_the_clocked_trace : RunsPrintTheClockedTrace
runs_print_the_clocked_trace held job text (c, netlist, (p, planned, (vectors, streamed, (same, trace)))) =
    (c, netlist, (vectors, streamed, subst (λ (d : Circuit). IsTrace d vectors.rows text) same trace))
