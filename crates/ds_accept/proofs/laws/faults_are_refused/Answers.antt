use Rattle.ds_accept.proofs.FaultyGraphs.{faults_are_refused_lem}
use Rattle.ds_accept.proofs.laws.faults_are_refused.Goals as goal

pub returns : goal.returns
returns c = faults_are_refused_lem
