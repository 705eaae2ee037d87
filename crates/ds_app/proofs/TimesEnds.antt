-- How `times` and `rate` end behind their graphs.
use Rattle.std.proofs.Common.{◌≡◌, ◌∙◌, ◌≤◌, ℕ, List, Result, Err, subst}
use Rattle.ds_outside.specs.Held.{Held}
use Rattle.ds_outside.specs.declared.files.Which.{Which}
use Rattle.ds_marked.specs.Graph.{Graph}
use Rattle.ds_design.specs.Circuit.{Circuit}
use Rattle.ds_latch.specs.Plan.{Planned}
use Rattle.ds_cmd.specs.declared.rate.RateJob.{RateJob}
use Rattle.ds_stage.specs.declared.stop.Stop.{Stop}
use Rattle.ds_stage.specs.Stage.{OfFile, Stage}
use Rattle.ds_stage.specs.PeriodStage.{timed_stage}
use Rattle.ds_stage.specs.RateStage.{bare_graph_stage}
use Rattle.ds_stage.specs.TimesStage.{scheduled_stage}
use Rattle.ds_stage.specs.Ends.{Ends, Output, RoseIn, Stops}
use Rattle.ds_stage.proofs.StageEnds.{ended_first, ends_after}
use Rattle.ds_stage.proofs.PeriodStages.{timed_since}
use Rattle.ds_stage.proofs.RateStages.{bare_nothing}
use Rattle.ds_app.specs.JobStages.{rate_stage}

-- `times`, once the plan is made
abbrev pub scheduled_job : (List ℕ → Held) → List ℕ → ℕ → Circuit → Planned → Stage (List ℕ)
scheduled_job held delays turns c p = scheduled_stage held delays turns p.graph

-- `rate`, by the names that were lent of its job
module _ (held : List ℕ → Held) (job : RateJob) (graph delays : List ℕ) (same_graph : graph ≡ job.graph) (same_delays : delays ≡ job.delays) where
  -- a graph that is not given ends it
  pub stops_rate : (more : OfFile) (out : Output) (stop : Stop) → out.new ≡ out.old → Stops (bare_graph_stage held graph) more stop
      → Ends {A = Unit {0}} (rate_stage held job) more out (Err stop)
  stops_rate more out stop same is =
      ended_first (Unit {0}) (bare_graph_stage held job.graph) (timed_stage held job.delays) more out stop (bare_nothing held job.graph) same
      (subst (λ (n : List ℕ). Stops (bare_graph_stage held n) more stop) same_graph is)

  -- behind its graph it ends as its period does
  pub ends_rate : (later : List ℕ → Held) (before mid now : Which → List ℕ → ℕ) → later ≡ held → ((w : Which) (n : List ℕ) → before w n ≤ mid w n)
      → (g : Graph) → (bare_graph_stage held graph).means g → (out : Output) (result : Result (Unit {0}) Stop)
      → Ends (timed_stage later delays g) (RoseIn mid now) out result
      → Ends (rate_stage held job) (RoseIn before now) out result
  ends_rate later before mid now held_same less g means out result is =
      ends_after (bare_graph_stage held job.graph) (timed_stage held job.delays) (RoseIn before now) out g
      (subst (λ (n : List ℕ). (bare_graph_stage held n).means g) same_graph means) result
      (timed_since before mid now held later job.delays g held_same less out result
      (subst (λ (n : List ℕ). Ends (timed_stage later n g) (RoseIn mid now) out result) same_delays is))
