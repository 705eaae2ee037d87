use Rattle.ds_netlist.proofs.FaultyCircuits.{faults_are_refused_lem}
use Rattle.ds_split.proofs.OneClustering.{one_grouped_lem}
use Rattle.ds_laws.proofs.EarlyFault.{exact_fault_early}
use Rattle.ds_laws.proofs.answers.exact_fault_early.Goals as goal

pub returns : goal.returns
returns c = exact_fault_early faults_are_refused_lem one_grouped_lem
