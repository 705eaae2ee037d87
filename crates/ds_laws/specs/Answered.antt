-- A fault has its status also where a read failed that comes behind its stage.
use Rattle.std.specs.Prelude.{◌≡◌, ◌⊎◌, ℕ, List, Ok}
use Rattle.ds_outside.specs.Fault.{Rose}
use Rattle.ds_cmd.specs.Line.{job_of}
use Rattle.ds_cmd.specs.declared.job.Job.{Job}
use Rattle.ds_stage.specs.Ends.{RoseIn}
use Rattle.ds_app.specs.Job.{stages_of}
use Rattle.ds_app.specs.Status.{AreTold, Call, HasWindows, IsAnswered}

-- a fault has status 1, but for want of memory, where no read up to that of its stage failed
abbrev pub ExactFaultEarly : Type 0
ExactFaultEarly = (call : Call) (status : ℕ) → IsAnswered call status → (job : Job) (line : List ℕ)
    → job_of call.words ≡ Ok job → AreTold call.held job → (stages_of call.held job).refused line
    → ((other : List ℕ) → ¬ (stages_of call.held job).unread (RoseIn call.before call.now) other)
    → (HasWindows job → ¬ Rose call.out.before call.out.now) → (status ≡ 1) ⊎ (status ≡ 4)
