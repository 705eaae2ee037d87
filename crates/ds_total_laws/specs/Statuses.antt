-- The status of a call whose files have bytes.
use Rattle.std.specs.Prelude.{◌≡◌, ◌⊎◌, ℕ, Ok}
use Rattle.ds_outside.specs.Fault.{Rose}
use Rattle.ds_cmd.specs.Line.{job_of}
use Rattle.ds_cmd.specs.declared.job.Job.{Job}
use Rattle.ds_app.specs.Status.{Call, IsAnswered, IsDone, IsRefused, NoneFailed}
use Rattle.ds_total_laws.specs.FileBytes.{FilesHaveBytes}

-- a call whose words are a job, each file of which is there and tells what it holds, and none of
-- whose reads and writes of its text failed, wants memory, or has written the job's text, or a line
-- refuses it
abbrev pub StatusesAreTold : Type 0
StatusesAreTold = (call : Call) (status : ℕ) → IsAnswered call status → (job : Job)
    → job_of call.words ≡ Ok job → FilesHaveBytes call.held job → NoneFailed call
    → ¬ Rose call.out.before call.out.now
    → (status ≡ 4) ⊎ ((status ≡ 0) × IsDone call) ⊎ ((status ≡ 1) × IsRefused call)
