-- Which files a job names, and when they have bytes.
use Rattle.std.specs.Prelude.{◌≡◌, ℕ, List, Option, None, Some}
use Rattle.ds_outside.specs.Held.{Held, bytes}
use Rattle.ds_cmd.specs.declared.job.Job.{Job}
use Rattle.ds_cmd.specs.declared.job.Job.TheVariants.{Run, Clock, Check, Graph, Replay, Accept}
use Rattle.ds_cmd.specs.declared.job.Job.TheVariants.{Demo, Period, Clusters, Rate, Times}

-- a file is there, and tells its bytes
abbrev pub HasBytes : Held → Type 0
HasBytes held = (text : List ℕ) × (held ≡ bytes text)

-- so does a file, where one is named
abbrev pub HasBytesIn : (List ℕ → Held) → Option (List ℕ) → Type 0
HasBytesIn held None = Unit {0}
HasBytesIn held (Some file) = HasBytes (held file)

-- so does each file that a job names
abbrev pub FilesHaveBytes : (List ℕ → Held) → Job → Type 0
FilesHaveBytes held (Run job) = HasBytes (held job.net) × HasBytes (held job.vec)
    × HasBytesIn held job.graph × HasBytesIn held job.groups
FilesHaveBytes held (Clock job) = HasBytes (held job.net) × HasBytes (held job.vec)
FilesHaveBytes held (Check net) = HasBytes (held net)
FilesHaveBytes held (Graph job) = HasBytes (held job.net) × HasBytesIn held job.groups
FilesHaveBytes held (Replay job) = HasBytes (held job.net) × HasBytes (held job.vec)
    × HasBytes (held job.log) × HasBytesIn held job.graph × HasBytesIn held job.groups
FilesHaveBytes held (Accept job) = HasBytes (held job.net) × HasBytes (held job.graph)
    × HasBytesIn held job.groups
FilesHaveBytes held (Demo job) = Unit {0}
FilesHaveBytes held (Period job) = HasBytes (held job.net) × HasBytes (held job.delays)
    × HasBytesIn held job.graph × HasBytesIn held job.groups
FilesHaveBytes held (Clusters job) = HasBytes (held job.net) × HasBytesIn held job.groups
FilesHaveBytes held (Rate job) = HasBytes (held job.graph) × HasBytes (held job.delays)
FilesHaveBytes held (Times job) = HasBytes (held job.net) × HasBytes (held job.delays)
    × HasBytesIn held job.graph × HasBytesIn held job.groups
