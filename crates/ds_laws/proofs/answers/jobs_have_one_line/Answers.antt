use Rattle.ds_accept.proofs.OneFault.{one_fault_lem as one_accept_fault_lem}
use Rattle.ds_netlist.proofs.FaultyCircuits.{faults_are_refused_lem, one_fault_lem}
use Rattle.ds_shake.proofs.FaultyExpansion.{arcs_fit_lem}
use Rattle.ds_split.proofs.OneClustering.{one_grouped_lem}
use Rattle.ds_laws.proofs.OneLine.{jobs_have_one_line}
use Rattle.ds_laws.proofs.answers.jobs_have_one_line.Goals as goal

pub returns : goal.returns
returns c = jobs_have_one_line faults_are_refused_lem one_fault_lem one_grouped_lem one_accept_fault_lem arcs_fit_lem
