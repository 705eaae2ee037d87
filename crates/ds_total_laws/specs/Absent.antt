-- The status of a call one of whose files is not there.
use Rattle.std.specs.Prelude.{◌≡◌, ◌⊎◌, ℕ, List, Option, None, Some, Ok}
use Rattle.ds_outside.specs.Held.{Held, absent}
use Rattle.ds_cmd.specs.Line.{job_of}
use Rattle.ds_cmd.specs.declared.job.Job.{Job}
use Rattle.ds_cmd.specs.declared.job.Job.TheVariants.{Run, Clock, Check, Graph, Replay, Accept}
use Rattle.ds_cmd.specs.declared.job.Job.TheVariants.{Demo, Period, Clusters, Rate, Times}
use Rattle.ds_app.specs.Status.{Call, IsAnswered, IsRefused}

-- a file is named, and is not there
abbrev pub IsAbsentIn : (List ℕ → Held) → Option (List ℕ) → Type 0
IsAbsentIn held None = ⊥
IsAbsentIn held (Some file) = held file ≡ absent

-- a file that a job names is not there
abbrev pub LacksFile : (List ℕ → Held) → Job → Type 0
LacksFile held (Run job) = (held job.net ≡ absent) ⊎ (held job.vec ≡ absent)
    ⊎ IsAbsentIn held job.graph ⊎ IsAbsentIn held job.groups
LacksFile held (Clock job) = (held job.net ≡ absent) ⊎ (held job.vec ≡ absent)
LacksFile held (Check net) = held net ≡ absent
LacksFile held (Graph job) = (held job.net ≡ absent) ⊎ IsAbsentIn held job.groups
LacksFile held (Replay job) = (held job.net ≡ absent) ⊎ (held job.vec ≡ absent)
    ⊎ (held job.log ≡ absent) ⊎ IsAbsentIn held job.graph ⊎ IsAbsentIn held job.groups
LacksFile held (Accept job) = (held job.net ≡ absent) ⊎ (held job.graph ≡ absent)
    ⊎ IsAbsentIn held job.groups
LacksFile held (Demo job) = ⊥
LacksFile held (Period job) = (held job.net ≡ absent) ⊎ (held job.delays ≡ absent)
    ⊎ IsAbsentIn held job.graph ⊎ IsAbsentIn held job.groups
LacksFile held (Clusters job) = (held job.net ≡ absent) ⊎ IsAbsentIn held job.groups
LacksFile held (Rate job) = (held job.graph ≡ absent) ⊎ (held job.delays ≡ absent)
LacksFile held (Times job) = (held job.net ≡ absent) ⊎ (held job.delays ≡ absent)
    ⊎ IsAbsentIn held job.graph ⊎ IsAbsentIn held job.groups

-- a call whose words are a job, one of whose files is not there, has status 3, or 4; or status 1,
-- where a stage refuses that comes before each file that is not there
abbrev pub AbsentFilesAreUnread : Type 0
AbsentFilesAreUnread = (call : Call) (status : ℕ) → IsAnswered call status → (job : Job)
    → job_of call.words ≡ Ok job → LacksFile call.held job
    → (status ≡ 3) ⊎ (status ≡ 4) ⊎ ((status ≡ 1) × IsRefused call)
