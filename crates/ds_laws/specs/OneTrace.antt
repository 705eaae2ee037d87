-- Runs of the same netlist and vectors with their logs print one trace.
use Rattle.std.specs.Prelude.{◌≡◌, ℕ, true, List, ◌++◌, length, codes}
use Rattle.ds_outside.specs.Held.{Held}
use Rattle.ds_marked.specs.Graph.{IsLegal, counts_after}
use Rattle.ds_marked.specs.Log.{IsLog}
use Rattle.ds_design.specs.Circuit.{Circuit}
use Rattle.ds_design.specs.Rows.{Rows}
use Rattle.ds_design.specs.Trace.{IsTrace}
use Rattle.ds_marked.specs.Progress.{HasFiredAll}
use Rattle.ds_latch.specs.Plan.{Planned}
use Rattle.ds_cmd.specs.declared.job.Job.TheVariants.{Run, Clock}
use Rattle.ds_cmd.specs.declared.run.RunJob.{RunJob}
use Rattle.ds_stage.specs.PlanStage.{planned_stage}
use Rattle.ds_stage.specs.Stages.{netlist_stage}
use Rattle.ds_stage.specs.StreamStage.{most_vectors, streamed_stage}
use Rattle.ds_app.specs.Job.{stages_of}
use Rattle.ds_app.specs.Status.{AreTold}
use Rattle.ds_laws.specs.Logs.{logged_run}
use Rattle.ds_laws.specs.OneText.{clock_after}

-- a text is this trace, which is that of the netlist and vectors of a run, the line `firings`, and
-- a log of a legal list of the run's plan that has each event once a vector
pub record IsTraceAndLog (held : List ℕ → Held) (job : RunJob) (trace text : List ℕ) : Type 0 where
  pub circuit : Circuit
  pub netlist : (netlist_stage held job.net).means circuit
  pub plan : Planned
  pub planned : (planned_stage held job.net job.graph job.groups job.clusters job.slack
      circuit).means plan
  pub vectors : Rows
  pub streamed : (streamed_stage held job.vec (most_vectors true) circuit).means vectors
  pub traced : IsTrace circuit vectors.rows trace
  pub events : List ℕ
  pub legal : IsLegal plan.graph (length vectors.rows) events
  pub all : HasFiredAll plan.graph (length vectors.rows) (counts_after (λ _. 0) events)
  pub log : List ℕ
  pub logged : IsLog plan.graph events log
  pub spelt : text ≡ trace ++ codes "firings\n" ++ log

-- two texts of runs have one trace before their logs, which `clock` prints too
pub record HaveOneTrace (held : List ℕ → Held) (job other : RunJob) (text printed : List ℕ)
    : Type 0 where
  pub trace : List ℕ
  pub clocked : (stages_of held (Clock (clock_after job))).means trace
  pub of_text : IsTraceAndLog held job trace text
  pub of_printed : IsTraceAndLog held other trace printed

-- two runs with their logs, of the same netlist and vectors, have one trace before these, by
-- whatever workers, clusters, groups, graphs and slacks
abbrev pub LoggedRunsHaveOneTrace : Type 0
LoggedRunsHaveOneTrace = (held : List ℕ → Held) (job other : RunJob)
    → AreTold held (Run (logged_run job)) → other.net ≡ job.net → other.vec ≡ job.vec
    → (text printed : List ℕ) → (stages_of held (Run (logged_run job))).means text
    → (stages_of held (Run (logged_run other))).means printed
    → HaveOneTrace held job other text printed
