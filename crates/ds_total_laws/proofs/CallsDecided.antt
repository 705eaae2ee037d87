-- A call whose files have bytes has its text written or is refused, or it wants memory.
use Rattle.std.proofs.Common.{◌≢◌, ℕ, List, Option, None, Some, inl, inr}
use Rattle.ds_outside.specs.Held.{Held, untold}
use Rattle.ds_cmd.specs.declared.job.Job.{Job}
use Rattle.ds_cmd.specs.declared.job.Job.TheVariants.{Run, Clock, Check, Graph, Replay, Accept, Demo, Period, Clusters, Rate, Times}
use Rattle.ds_cmd.proofs.AllowedNumbers.{words_yield}
use Rattle.ds_app.specs.Status.{AreTold, IsToldIn}
use Rattle.ds_total_laws.specs.Statuses.{StatusesAreTold}
use Rattle.ds_total_laws.specs.FileBytes.{FilesHaveBytes, HasBytes, HasBytesIn}
use Rattle.ds_total_laws.proofs.EachJob.{jobs_are_decided}

-- a file with bytes tells what it holds
file_told : (h : Held) → HasBytes h → h ≢ untold
file_told h (text, is) none = cc

-- where one is named
named_told : (held : List ℕ → Held) (file : Option (List ℕ)) → HasBytesIn held file → IsToldIn held file
named_told held None has_bytes = tt
named_told held (Some file) has_bytes = file_told (held file) has_bytes

-- so the files of a job tell what they hold, where they have bytes
files_told : (held : List ℕ → Held) (job : Job) → FilesHaveBytes held job → AreTold held job
files_told held (Run job) (net, vec, graph, groups) = (file_told (held job.net) net, file_told (held job.vec) vec, named_told held job.graph graph, named_told held job.groups groups)
files_told held (Clock job) (net, vec) = (file_told (held job.net) net, file_told (held job.vec) vec)
files_told held (Check net) has_bytes = file_told (held net) has_bytes
files_told held (Graph job) (net, groups) = (file_told (held job.net) net, named_told held job.groups groups)
files_told held (Replay job) (net, vec, log, graph, groups) =
    (file_told (held job.net) net, file_told (held job.vec) vec, file_told (held job.log) log, named_told held job.graph graph, named_told held job.groups groups)
files_told held (Accept job) (net, graph, groups) = (file_told (held job.net) net, file_told (held job.graph) graph, named_told held job.groups groups)
files_told held (Demo job) has_bytes = tt
files_told held (Period job) (net, delays, graph, groups) = (file_told (held job.net) net, file_told (held job.delays) delays, named_told held job.graph graph, named_told held job.groups groups)
files_told held (Clusters job) (net, groups) = (file_told (held job.net) net, named_told held job.groups groups)
files_told held (Rate job) (graph, delays) = (file_told (held job.graph) graph, file_told (held job.delays) delays)
files_told held (Times job) (net, delays, graph, groups) = (file_told (held job.net) net, file_told (held job.delays) delays, named_told held job.graph graph, named_told held job.groups groups)

-- a job that is decided has its status
pub statuses_are_told : StatusesAreTold
statuses_are_told call status answer job is_job has_bytes none_failed not_rose =
    let told : AreTold call.held job = files_told call.held job has_bytes in
    elim (jobs_are_decided call.held job (words_yield call.words job is_job) has_bytes) [
      | inl (text, means) ↦ elim (answer.complete job text is_job told means none_failed not_rose) [
        | inl done ↦ inr (inl (done, answer.done done))
        | inr wanting ↦ inl wanting
      ]
      | inr (line, refused) ↦ elim (answer.exact_fault job line is_job told refused none_failed (λ windows. not_rose)) [
        | inl faulty ↦ inr (inr (faulty, answer.refused faulty))
        | inr wanting ↦ inl wanting
      ]
    ]
