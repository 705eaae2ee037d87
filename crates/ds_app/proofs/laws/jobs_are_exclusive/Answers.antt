use Rattle.ds_netlist.proofs.FaultyCircuits.{faults_are_refused_lem}
use Rattle.ds_split.proofs.OneClustering.{one_grouped_lem}
use Rattle.ds_app.proofs.ExclusiveJobs.{job_not_refused}
use Rattle.ds_app.proofs.laws.jobs_are_exclusive.Goals as goal

pub returns : goal.returns
returns c = job_not_refused faults_are_refused_lem one_grouped_lem
