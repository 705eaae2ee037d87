-- What a call of the program answers, and what it leaves on its outputs.
use Rattle.std.specs.Prelude.{◌≡◌, ◌≢◌, ◌⊎◌, ℕ, ◌≤◌, List, Option, None, Some, Result, Ok, Err}
use Rattle.std.specs.Prelude.{codes}
use Rattle.ds_outside.specs.Held.{Held, untold}
use Rattle.ds_outside.specs.Fault.{Rose}
use Rattle.ds_outside.specs.Written.{appended, AppendsPart}
use Rattle.ds_outside.specs.declared.files.Which.{Which}
use Rattle.ds_cmd.specs.Line.{job_of}
use Rattle.ds_cmd.specs.declared.job.Job.{Job}
use Rattle.ds_cmd.specs.declared.job.Job.TheVariants.{Run, Clock, Check, Graph, Replay, Accept}
use Rattle.ds_cmd.specs.declared.job.Job.TheVariants.{Demo, Period, Clusters, Rate, Times}
use Rattle.ds_cmd.specs.declared.fault.UsageFault.{UsageFault}
use Rattle.ds_cmd.specs.declared.fault.UsageFault.TheVariants as usage
use Rattle.ds_stage.specs.declared.stop.Stop.{Stop}
use Rattle.ds_stage.specs.declared.stop.Stop.TheVariants.{Refused, Unread, Unwritten, Memory}
use Rattle.ds_stage.specs.Ends.{Output, RoseIn}
use Rattle.ds_app.specs.Job.{stages_of}

-- a call: its words, what its files hold, their counts of faults before and after, and its outputs
pub record Call : Type 0 where
  pub words : List (List ℕ)
  pub held : List ℕ → Held
  pub before : Which → List ℕ → ℕ
  pub now : Which → List ℕ → ℕ
  pub out : Output
  pub err : Output

-- a line stands on an output, whole or, where a write failed, in part
abbrev pub Reports : Output → List ℕ → Type 0
Reports err line =
    (err.new ≡ appended err.old line) ⊎ (AppendsPart err.old err.new line × Rose err.before err.now)

-- the line and the status of what ended a job
abbrev pub SaysStop : Stop → Output → ℕ → Type 0
SaysStop (Refused line) err status = (status ≡ 1) × Reports err line
SaysStop (Unread line) err status = (status ≡ 3) × Reports err line
SaysStop Memory err status = (status ≡ 4) × Reports err (codes "desync: out of memory\n")
SaysStop Unwritten err status = (status ≡ 5) × Reports err (codes "desync: cannot write\n")

-- the status of a job that is done, without a line, or those of what ended it
abbrev pub SaysEnd : Result (Unit {0}) Stop → Output → ℕ → Type 0
SaysEnd (Ok done) err status = (status ≡ 0) × (err.new ≡ err.old)
SaysEnd (Err stop) err status = SaysStop stop err status

-- the line and the status of words that are no command line
abbrev pub SaysUsage : UsageFault → Output → ℕ → Type 0
SaysUsage usage.Line err status = (status ≡ 2) × Reports err (codes "desync: bad command line\n")
SaysUsage usage.Number err status = (status ≡ 2) × Reports err (codes "desync: bad command line\n")
SaysUsage usage.Mode err status = (status ≡ 2) × Reports err (codes "desync: bad command line\n")
SaysUsage usage.Memory err status = (status ≡ 4) × Reports err (codes "desync: out of memory\n")

-- the words are no command line
abbrev pub IsNoLine : List (List ℕ) → Type 0
IsNoLine words = (fault : UsageFault) × (job_of words ≡ Err fault)

-- the job's files are there and have no fault, and `out` has exactly the job's text more
pub record IsDone (call : Call) : Type 0 where
  pub job : Job
  pub text : List ℕ
  pub is_job : job_of call.words ≡ Ok job
  pub is_text : (stages_of call.held job).means text
  pub written : call.out.new ≡ appended call.out.old text
  pub silent : call.err.new ≡ call.err.old

-- `out` has what the stages of the job leave where they stop so
pub record HasLeft (call : Call) (job : Job) (stop : Stop) : Type 0 where
  pub text : List ℕ
  pub is_left : (stages_of call.held job).leaves (RoseIn call.before call.now) stop text
  pub written : call.out.new ≡ appended call.out.old text

-- a file has a fault, the first in the order of the stages, and its line is on `err`; `out` has
-- exactly what the stages leave there
pub record IsRefused (call : Call) : Type 0 where
  pub job : Job
  pub line : List ℕ
  pub is_job : job_of call.words ≡ Ok job
  pub is_line : (stages_of call.held job).refused line
  pub left : HasLeft call job (Refused line)
  pub reported : Reports call.err line

-- a read of a file failed, and the stages before it have no fault; the line on `err` names the
-- file, and `out` has what the stages leave there
pub record IsUnread (call : Call) : Type 0 where
  pub job : Job
  pub line : List ℕ
  pub is_job : job_of call.words ≡ Ok job
  pub is_line : (stages_of call.held job).unread (RoseIn call.before call.now) line
  pub left : HasLeft call job (Unread line)
  pub reported : Reports call.err line

-- memory was wanted and not found: `out` is as it was, or has what the stages of the job leave
abbrev pub IsWanting : Call → Type 0
IsWanting call = (call.out.new ≡ call.out.old)
    ⊎ ((job : Job) × (job_of call.words ≡ Ok job) × HasLeft call job Memory)

-- a write failed: `out` has a first part of the job's text more; or, where a file has a fault that
-- the job meets behind what it has written, a first part of what it leaves there
pub record IsUnwritten (call : Call) : Type 0 where
  pub job : Job
  pub text : List ℕ
  pub is_job : job_of call.words ≡ Ok job
  pub is_text : (stages_of call.held job).means text
      ⊎ (stages_of call.held job).leaves (RoseIn call.before call.now) Unwritten text
  pub part : AppendsPart call.out.old call.out.new text
  pub cause : Rose call.out.before call.out.now
  pub reported : Reports call.err (codes "desync: cannot write\n")

-- a file tells what it holds, where one is named
abbrev pub IsToldIn : (List ℕ → Held) → Option (List ℕ) → Type 0
IsToldIn held None = Unit {0}
IsToldIn held (Some file) = held file ≢ untold

-- the files of a job tell what they hold
abbrev pub AreTold : (List ℕ → Held) → Job → Type 0
AreTold held (Run job) = (held job.net ≢ untold) × (held job.vec ≢ untold)
    × IsToldIn held job.graph × IsToldIn held job.groups
AreTold held (Clock job) = (held job.net ≢ untold) × (held job.vec ≢ untold)
AreTold held (Check net) = held net ≢ untold
AreTold held (Graph job) = (held job.net ≢ untold) × IsToldIn held job.groups
AreTold held (Replay job) = (held job.net ≢ untold) × (held job.vec ≢ untold)
    × (held job.log ≢ untold) × IsToldIn held job.graph × IsToldIn held job.groups
AreTold held (Accept job) = (held job.net ≢ untold) × (held job.graph ≢ untold)
    × IsToldIn held job.groups
AreTold held (Demo job) = Unit {0}
AreTold held (Period job) = (held job.net ≢ untold) × (held job.delays ≢ untold)
    × IsToldIn held job.graph × IsToldIn held job.groups
AreTold held (Clusters job) = (held job.net ≢ untold) × IsToldIn held job.groups
AreTold held (Rate job) = (held job.graph ≢ untold) × (held job.delays ≢ untold)
AreTold held (Times job) = (held job.net ≢ untold) × (held job.delays ≢ untold)
    × IsToldIn held job.graph × IsToldIn held job.groups

-- the job reads its vectors window by window, and writes as it reads
abbrev pub HasWindows : Job → Type 0
HasWindows (Run job) = job.stop ≡ None
HasWindows (Clock job) = Unit {0}
HasWindows job = ⊥

-- the words are no command line, or that of a job that writes nothing before it has all its text
abbrev pub WritesLast : List (List ℕ) → Type 0
WritesLast words = (job : Job) → job_of words ≡ Ok job → ¬ HasWindows job

-- no read failed in the call
abbrev pub NoneFailed : Call → Type 0
NoneFailed call = (which : Which) (name : List ℕ) → ¬ RoseIn call.before call.now which name

-- each status has its cause, and where nothing fails each cause has its status; 4 alone is free.
-- A read that failed gives 3, or 4, and a write of the job's text that failed gives 5: with every
-- other status the counts of faults are as they were
pub record IsAnswered (call : Call) (status : ℕ) : Type 0 where
  pub known : status ≤ 5
  pub done : status ≡ 0 → IsDone call
  pub refused : status ≡ 1 → IsRefused call
  pub no_line : status ≡ 2 → IsNoLine call.words
      × Reports call.err (codes "desync: bad command line\n")
  pub unread : status ≡ 3 → IsUnread call
  pub no_memory : status ≡ 4 → IsWanting call
      × Reports call.err (codes "desync: out of memory\n")
  pub unwritten : status ≡ 5 → IsUnwritten call
  pub out_same : WritesLast call.words → 1 ≤ status → status ≤ 4
      → call.out.new ≡ call.out.old
  pub failed_read : (status ≡ 3) ⊎ (status ≡ 4) ⊎ (call.now ≡ call.before)
  pub failed_write : (status ≡ 5) ⊎ (call.out.now ≡ call.out.before)
  pub exact_line : (fault : UsageFault) → job_of call.words ≡ Err fault
      → (status ≡ 2) ⊎ (status ≡ 4)
  pub exact_fault : (job : Job) (line : List ℕ) → job_of call.words ≡ Ok job → AreTold call.held job
      → (stages_of call.held job).refused line → NoneFailed call
      → (HasWindows job → ¬ Rose call.out.before call.out.now) → (status ≡ 1) ⊎ (status ≡ 4)
  pub complete : (job : Job) (text : List ℕ) → job_of call.words ≡ Ok job → AreTold call.held job
      → (stages_of call.held job).means text → NoneFailed call → ¬ Rose call.out.before call.out.now
      → (status ≡ 0) ⊎ (status ≡ 4)
