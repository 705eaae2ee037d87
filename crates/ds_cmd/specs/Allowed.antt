-- The numbers of a job, and what may not stand beside them.
use Rattle.std.specs.Prelude.{◌≡◌, ℕ, ◌≤◌, ⊤, Bool, true}
use Rattle.ds_base.specs.Limit.{most_of}
use Rattle.ds_base.specs.declared.number.Limit.TheVariants as limit
use Rattle.ds_cmd.specs.declared.job.Job.{Job}
use Rattle.ds_cmd.specs.declared.job.Job.TheVariants.{Run, Clock, Check, Graph, Replay, Accept}
use Rattle.ds_cmd.specs.declared.job.Job.TheVariants.{Demo, Period, Clusters, Rate, Times}

-- so many workers may be wanted
abbrev pub AreWorkers : ℕ → Type 0
AreWorkers jobs = (1 ≤ jobs) × (jobs ≤ 64)

-- a slack is within its range, and what has none is wanted without it alone
abbrev pub IsSlackBeside : ℕ → Bool → Type 0
IsSlackBeside slack wanted = (slack ≤ 15) × (wanted ≡ true → slack ≡ 0)

-- the numbers of a job are within their ranges, and graphs are expanded and open latches shown
-- without slack alone
abbrev pub AreAllowed : Job → Type 0
AreAllowed (Run job) = AreWorkers job.jobs × (job.slack ≤ 15)
AreAllowed (Clock job) = ⊤
AreAllowed (Check net) = ⊤
AreAllowed (Graph job) = IsSlackBeside job.slack job.shake
AreAllowed (Replay job) = IsSlackBeside job.slack job.transparent
AreAllowed (Accept job) = job.slack ≤ 15
AreAllowed (Demo job) = (1 ≤ job.registers) × (job.registers ≤ most_of limit.Clusters)
    × (job.turns ≤ most_of limit.Vectors) × AreWorkers job.jobs
AreAllowed (Period job) = job.slack ≤ 15
AreAllowed (Clusters job) = ⊤
AreAllowed (Rate job) = ⊤
AreAllowed (Times job) = (job.turns ≤ most_of limit.Vectors) × (job.slack ≤ 15)
