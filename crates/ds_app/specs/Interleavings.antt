-- In whatever order the latches of a `run` command fire, each register stores its clocked values,
-- one after another.
use Rattle.std.specs.Prelude.{◌≡◌, ℕ, List, Ok}
use Rattle.ds_outside.specs.Held.{Held}
use Rattle.ds_design.specs.Circuit.{Circuit}
use Rattle.ds_design.specs.Rows.{Rows}
use Rattle.ds_latch.specs.Plan.{Planned}
use Rattle.ds_latch.specs.Headline.{Desynchronizes}
use Rattle.ds_cmd.specs.Line.{job_of}
use Rattle.ds_cmd.specs.declared.job.Job.TheVariants.{Run}
use Rattle.ds_cmd.specs.declared.run.RunJob.{RunJob}
use Rattle.ds_stage.specs.Stages.{netlist_stage}
use Rattle.ds_stage.specs.PlanStage.{planned_stage}
use Rattle.ds_app.specs.RunStage.{run_vectors_stage}

-- for the words of a `run` command, and the netlist, plan and vectors that the bytes held mean,
-- with a graph of the user's where one is named: the netlist has one clocked run on the vectors,
-- and every legal list does what it does
abbrev pub Interleavings : (List ℕ → Held) → List (List ℕ) → Type 0
Interleavings held words =
    (job : RunJob) → job_of words ≡ Ok (Run job)
    → (c : Circuit) → (netlist_stage held job.net).means c
    → (p : Planned)
    → (planned_stage held job.net job.graph job.groups job.clusters job.slack c).means p
    → (vectors : Rows) → (run_vectors_stage held job.vec job.log job.stop c).means vectors
    → Desynchronizes p.split p.graph vectors.rows
