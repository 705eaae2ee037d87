use Rattle.ds_total_laws.proofs.EachJob.{jobs_are_decided}
use Rattle.ds_total_laws.proofs.jobs.jobs_are_decided.Goals as goal

pub returns : goal.returns
returns c = jobs_are_decided
