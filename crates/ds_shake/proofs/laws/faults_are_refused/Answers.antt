use Rattle.ds_shake.proofs.FaultyExpansion.{faults_are_refused_lem}
use Rattle.ds_shake.proofs.laws.faults_are_refused.Goals as goal

pub returns : goal.returns
returns c = faults_are_refused_lem
