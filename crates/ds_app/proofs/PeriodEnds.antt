-- How `period` ends behind its plan.
use Rattle.std.proofs.Common.{◌≡◌, ℕ, List, Result, Err}
use Rattle.ds_outside.specs.Held.{Held}
use Rattle.ds_marked.specs.Graph.{Graph}
use Rattle.ds_design.specs.Circuit.{Circuit}
use Rattle.ds_latch.specs.Plan.{Planned}
use Rattle.ds_stage.specs.declared.stop.Stop.{Stop}
use Rattle.ds_stage.specs.Stage.{OfFile, Stage}
use Rattle.ds_stage.specs.PeriodStage.{delays_stage, timed_stage}
use Rattle.ds_stage.specs.Ends.{Ends, Never, Output, Stops}
use Rattle.ds_stage.proofs.Stages.{stopped}
use Rattle.ds_stage.proofs.StageEnds.{ended, ends_after, ends_more}
use Rattle.ds_stage.proofs.StagesLeaveNothing.{giving_nothing, timed_nothing}
use Rattle.ds_stage.proofs.PeriodStages.{last_stage}

module _ (held : List ℕ → Held) (delays : List ℕ) (more : OfFile) (g : Graph) where
  -- delays that are not read end it
  pub stops_delays : (out : Output) (stop : Stop) → out.new ≡ out.old → Stops (delays_stage held delays g) more stop
      → Ends {A = Unit {0}} (timed_stage held delays g) more out (Err stop)
  stops_delays out stop same is =
      ended (Unit {0}) (timed_stage held delays g) more out stop (timed_nothing held delays g) same
      (stopped (delays_stage held delays g) (last_stage g) more stop is)

  -- behind the delays it ends as its text does
  pub ends_text : (numbers : List ℕ) → (delays_stage held delays g).means numbers
      → (out : Output) (result : Result (Unit {0}) Stop) → Ends (last_stage g numbers) Never out result
      → Ends (timed_stage held delays g) more out result
  ends_text numbers are out result is =
      ends_after (delays_stage held delays g) (last_stage g) more out numbers are result
      (ends_more (last_stage g numbers) Never more out (giving_nothing (last_stage g numbers).means) (λ line none. absurd none) result is)

-- `period`, once the plan is made
abbrev pub timed_job : (List ℕ → Held) → List ℕ → Circuit → Planned → Stage (List ℕ)
timed_job held delays c p = timed_stage held delays p.graph
