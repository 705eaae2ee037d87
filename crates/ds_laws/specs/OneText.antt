-- What a job prints is determined by its files.
use Rattle.std.specs.Prelude.{◌≡◌, ℕ, List, false, None}
use Rattle.ds_outside.specs.Held.{Held}
use Rattle.ds_cmd.specs.Allowed.{AreAllowed}
use Rattle.ds_cmd.specs.declared.job.Job.{Job}
use Rattle.ds_cmd.specs.declared.job.Job.TheVariants.{Run, Clock, Period, Rate}
use Rattle.ds_cmd.specs.declared.clock.ClockJob.{ClockJob}
use Rattle.ds_cmd.specs.declared.run.RunJob.{RunJob}
use Rattle.ds_app.specs.Job.{stages_of}
use Rattle.ds_app.specs.Status.{AreTold}

-- the job is not `period` or `rate`, and no `run` that prints its log or stops
abbrev pub IsDetermined : Job → Type 0
IsDetermined (Run job) = (job.log ≡ false) × (job.stop ≡ None)
IsDetermined (Period job) = ⊥
IsDetermined (Rate job) = ⊥
IsDetermined job = Unit {0}

-- such a job has one text at most, where its files tell what they hold
abbrev pub JobsHaveOneText : Type 0
JobsHaveOneText = (held : List ℕ → Held) (job : Job) → AreAllowed job → AreTold held job
    → IsDetermined job → (text other : List ℕ)
    → (stages_of held job).means text → (stages_of held job).means other → other ≡ text

-- a run to its end, without its log
abbrev pub plain_run : RunJob → RunJob
plain_run job = record job { log = false; stop = None }

-- the clocked run of the same netlist and vectors
abbrev pub clock_after : RunJob → ClockJob
clock_after job = record { net = job.net; vec = job.vec }

-- what `run` prints, by whatever workers, clusters, groups, graph and slack, `clock` prints
abbrev pub RunsPrintTheClockedTrace : Type 0
RunsPrintTheClockedTrace = (held : List ℕ → Held) (job : RunJob) (text : List ℕ)
    → (stages_of held (Run (plain_run job))).means text
    → (stages_of held (Clock (clock_after job))).means text
