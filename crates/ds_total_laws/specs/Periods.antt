-- What `period` and `rate` print is one text, but for the line of the cycle.
use Rattle.std.specs.Prelude.{◌≡◌, ℕ, List, length}
use Rattle.ds_outside.specs.Held.{Held}
use Rattle.ds_design.specs.Circuit.{Circuit}
use Rattle.ds_marked.specs.Graph.{Graph}
use Rattle.ds_latch.specs.Plan.{Planned}
use Rattle.ds_cmd.specs.declared.job.Job.TheVariants.{Period, Rate}
use Rattle.ds_cmd.specs.declared.period.PeriodJob.{PeriodJob}
use Rattle.ds_cmd.specs.declared.rate.RateJob.{RateJob}
use Rattle.ds_period.specs.Period.{IsPeriod}
use Rattle.ds_period.specs.Timing.{timed_arcs}
use Rattle.ds_stage.specs.PeriodStage.{IsPeriodText, delays_stage, period_text}
use Rattle.ds_stage.specs.PlanStage.{planned_stage}
use Rattle.ds_stage.specs.RateStage.{bare_graph_stage}
use Rattle.ds_stage.specs.Stages.{netlist_stage}
use Rattle.ds_app.specs.Job.{stages_of}
use Rattle.ds_app.specs.Status.{AreTold}

-- two texts have the ratio and the potentials of one period of a graph with delays, and each a line
-- of a slowest cycle of its own
pub record DifferInCycle (g : Graph) (delays text other : List ℕ) : Type 0 where
  pub p : ℕ
  pub q : ℕ
  pub potentials : List ℕ
  pub cycle : List ℕ
  pub other_cycle : List ℕ
  pub period : IsPeriod (timed_arcs g.arcs delays) (length g.events) p q cycle potentials
  pub other_period : IsPeriod (timed_arcs g.arcs delays) (length g.events) p q other_cycle
      potentials
  pub spelt : text ≡ period_text g p q cycle potentials
  pub other_spelt : other ≡ period_text g p q other_cycle potentials

-- two texts of the period of a graph with the same delays do
abbrev pub OnePeriodText : Type 0
OnePeriodText = (g : Graph) (delays text other : List ℕ) → IsPeriodText g delays text
    → IsPeriodText g delays other → DifferInCycle g delays text other

-- two texts do, of the graph of a job's plan with the delays of its file
pub record HaveOnePeriod (held : List ℕ → Held) (job : PeriodJob) (text other : List ℕ)
    : Type 0 where
  pub circuit : Circuit
  pub plan : Planned
  pub delays : List ℕ
  pub is_netlist : (netlist_stage held job.net).means circuit
  pub is_plan : (planned_stage held job.net job.graph job.groups job.clusters job.slack
      circuit).means plan
  pub are_delays : (delays_stage held job.delays plan.graph).means delays
  pub differ : DifferInCycle plan.graph delays text other

-- so do two texts of `period`, where its files tell what they hold
abbrev pub PeriodsHaveOneText : Type 0
PeriodsHaveOneText = (held : List ℕ → Held) (job : PeriodJob) → AreTold held (Period job)
    → (text other : List ℕ) → (stages_of held (Period job)).means text
    → (stages_of held (Period job)).means other → HaveOnePeriod held job text other

-- two texts do, of the graph of a file with the delays of another
pub record HaveOneRate (held : List ℕ → Held) (job : RateJob) (text other : List ℕ) : Type 0 where
  pub graph : Graph
  pub delays : List ℕ
  pub is_graph : (bare_graph_stage held job.graph).means graph
  pub are_delays : (delays_stage held job.delays graph).means delays
  pub differ : DifferInCycle graph delays text other

-- so do two texts of `rate`, where its files tell what they hold
abbrev pub RatesHaveOneText : Type 0
RatesHaveOneText = (held : List ℕ → Held) (job : RateJob) → AreTold held (Rate job)
    → (text other : List ℕ) → (stages_of held (Rate job)).means text
    → (stages_of held (Rate job)).means other → HaveOneRate held job text other
