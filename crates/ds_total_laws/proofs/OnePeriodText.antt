-- What `period` prints is one text, but for the line of the cycle.
use Rattle.std.proofs.Common.{◌≡◌, ◌∙◌, ℕ, List, ap, length, sym, subst}
use Rattle.ds_outside.specs.declared.files.Which.TheVariants.{Delays}
use Rattle.ds_netlist.proofs.FaultyCircuits.{faults_are_refused_lem}
use Rattle.ds_split.proofs.OneClustering.{one_grouped_lem}
use Rattle.ds_marked.specs.Graph.{Graph}
use Rattle.ds_latch.specs.Plan.{Planned}
use Rattle.ds_period.specs.Period.{IsPeriod}
use Rattle.ds_period.specs.Read.{delays_of}
use Rattle.ds_period.specs.Timing.{timed_arcs}
use Rattle.ds_graph_laws.proofs.OnePeriod.{graphs_have_one_period}
use Rattle.ds_stage.specs.PeriodStage.{IsPeriodText, delay_text, delays_stage, given_stage, period_text, timed_stage}
use Rattle.ds_stage.specs.PlanStage.{planned_stage}
use Rattle.ds_stage.specs.RateStage.{bare_graph_stage}
use Rattle.ds_stage.specs.Stage.{IsExclusive, Stage, giving, then_stage}
use Rattle.ds_stage.specs.Stages.{lines_stage, netlist_stage, read_or_line}
use Rattle.ds_stage.proofs.ExclusiveStages.{lines_exclusive, netlist_exclusive, result_exclusive, then_exclusive}
use Rattle.ds_stage.proofs.PeriodStages.{delays_exclusive}
use Rattle.ds_stage.proofs.PlanExclusive.{planned_exclusive}
use Rattle.ds_stage.proofs.RateStages.{bare_exclusive}
use Rattle.ds_app.specs.JobStages.{period_stage}
use Rattle.ds_app.proofs.ExclusiveJobs.{told_file}
use Rattle.ds_total_laws.specs.Periods.{HaveOnePeriod, HaveOneRate, OnePeriodText, PeriodsHaveOneText, RatesHaveOneText}

-- two texts of the period of a graph differ in the line of the cycle alone
pub one_period_text : OnePeriodText
one_period_text g delays text other is also =
    let (p, q, potentials) = graphs_have_one_period g delays is.p is.q also.p also.q is.cycle is.potentials also.cycle also.potentials is.period also.period in
    record {
      p = is.p;
      q = is.q;
      potentials = is.potentials;
      cycle = is.cycle;
      other_cycle = also.cycle;
      period = is.period;
      other_period = subst (λ (heights : List ℕ). IsPeriod (timed_arcs g.arcs delays) (length g.events) is.p is.q also.cycle heights) (sym potentials)
          (subst (λ (n : ℕ). IsPeriod (timed_arcs g.arcs delays) (length g.events) is.p n also.cycle also.potentials) (sym q)
          (subst (λ (n : ℕ). IsPeriod (timed_arcs g.arcs delays) (length g.events) n also.q also.cycle also.potentials) (sym p) also.period));
      spelt = is.spelt;
      other_spelt = also.spelt ∙ sym (ap (λ (n : ℕ). period_text g n is.q also.cycle is.potentials) p
          ∙ (ap (λ (n : ℕ). period_text g also.p n also.cycle is.potentials) q
          ∙ ap (λ (heights : List ℕ). period_text g also.p also.q also.cycle heights) potentials));
    }

-- what two results of a stage have in common behind one that gives one thing at most
behind_one : {A B : Type 0} (agree : B → B → Type 0) (first : Stage A) (next : A → Stage B) → ((a b : A) → first.means a → first.means b → a ≡ b)
    → ((a : A) → first.means a → (x y : B) → (next a).means x → (next a).means y → agree x y)
    → (x y : B) → (then_stage first next).means x → (then_stage first next).means y → agree x y
behind_one {A} {B} agree first next one each x y (a, is, gives) (b, also, more) =
    each a is x y gives (subst (λ (d : A). (next d).means y) (one b a also is) more)

-- two texts of `period` differ in it alone
pub periods_have_one_text : PeriodsHaveOneText
periods_have_one_text held job (told, delays_told, graph_told, groups_told) =
    behind_one (HaveOnePeriod held job) (netlist_stage held job.net) (period_stage held job) ((netlist_exclusive faults_are_refused_lem held job.net told).one) (λ c is_netlist.
    behind_one (HaveOnePeriod held job) (planned_stage held job.net job.graph job.groups job.clusters job.slack c) (λ (p : Planned). timed_stage held job.delays p.graph)
    ((planned_exclusive one_grouped_lem held job.net job.graph job.groups job.clusters job.slack (told_file held job.graph graph_told) (told_file held job.groups groups_told) c).one) (λ plan is_plan.
    let file : List ℕ = job.delays in
    let g : Graph = plan.graph in
    let delays_once : IsExclusive (delays_stage held file g) =
    then_exclusive (lines_stage held Delays file) (given_stage file g) (lines_exclusive held Delays file delays_told)
    (λ lines. result_exclusive (read_or_line file delay_text (delays_of g lines))) in
    behind_one (HaveOnePeriod held job) (delays_stage held file g) (λ (delays : List ℕ). giving (IsPeriodText g delays)) delays_once.one
    (λ delays are_delays text other is also. record {
      circuit = c;
      plan = plan;
      delays = delays;
      is_netlist = is_netlist;
      is_plan = is_plan;
      are_delays = are_delays;
      differ = one_period_text g delays text other is also;
    })))

-- so do two texts of `rate`
pub rates_have_one_text : RatesHaveOneText
rates_have_one_text held job (told, delays_told) =
    behind_one (HaveOneRate held job) (bare_graph_stage held job.graph) (timed_stage held job.delays) ((bare_exclusive held job.graph told).one) (λ g is_graph.
    behind_one (HaveOneRate held job) (delays_stage held job.delays g) (λ (delays : List ℕ). giving (IsPeriodText g delays)) ((delays_exclusive held job.delays delays_told g).one)
    (λ delays are_delays text other is also. record {
      graph = g;
      delays = delays;
      is_graph = is_graph;
      are_delays = are_delays;
      differ = one_period_text g delays text other is also;
    }))
