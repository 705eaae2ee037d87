-- The text of a run: the trace of the netlist, or where its registers stand at a stop; and where a
-- log is wanted the firings behind it.
use Rattle.std.specs.Prelude.{◌≡◌, Bool, List, ℕ, Option, None, Some}
use Rattle.ds_outside.specs.Held.{Held}
use Rattle.ds_design.specs.Circuit.{Circuit}
use Rattle.ds_latch.specs.Plan.{Planned}
use Rattle.ds_design.specs.Rows.{Rows}
use Rattle.ds_run.specs.RunText.{IsRunText}
use Rattle.ds_run.specs.Stopped.{IsStoppedText}
use Rattle.ds_stage.specs.Stage.{Stage, giving, then_stage}
use Rattle.ds_stage.specs.Stages.{vectors_stage}
use Rattle.ds_stage.specs.StreamStage.{most_vectors, streamed_stage}

-- the trace of a netlist, by a plan for it; with a log, a legal list of the plan that has each
-- event once a vector
abbrev pub traced_stage : Bool → Circuit → Planned → Rows → Stage (List ℕ)
traced_stage log c p vectors =
    giving (λ text. (p.split.circuit ≡ c) × IsRunText log p vectors.rows text)

-- the same, once the plan is made: of the vectors of a file that is read window by window
abbrev pub streamed_run_stage : (List ℕ → Held) → List ℕ → Bool → Circuit → Planned
    → Stage (List ℕ)
streamed_run_stage held vec log c p =
    then_stage (streamed_stage held vec (most_vectors log) c) (traced_stage log c p)

-- where the registers stand at a stop, by a plan for the netlist and so many workers
abbrev pub stopped_stage : Bool → ℕ → ℕ → Circuit → Planned → Rows → Stage (List ℕ)
stopped_stage log jobs stop c p vectors =
    giving (λ text. (p.split.circuit ≡ c) × IsStoppedText log stop jobs p vectors.rows text)

-- the same, once the plan is made: the vectors are read whole
abbrev pub stopped_run_stage : (List ℕ → Held) → List ℕ → Bool → ℕ → ℕ → Circuit → Planned
    → Stage (List ℕ)
stopped_run_stage held vec log jobs stop c p =
    then_stage (vectors_stage held vec c) (stopped_stage log jobs stop c p)

-- `run`, once the plan is made, with a stop or without one
abbrev pub planned_run_stage : (List ℕ → Held) → List ℕ → Bool → ℕ → Option ℕ → Circuit
    → Planned → Stage (List ℕ)
planned_run_stage held vec log jobs None c p = streamed_run_stage held vec log c p
planned_run_stage held vec log jobs (Some stop) c p =
    stopped_run_stage held vec log jobs stop c p

-- the vectors of `run`, with a stop or without one
abbrev pub run_vectors_stage : (List ℕ → Held) → List ℕ → Bool → Option ℕ → Circuit → Stage Rows
run_vectors_stage held vec log None c = streamed_stage held vec (most_vectors log) c
run_vectors_stage held vec log (Some stop) c = vectors_stage held vec c
