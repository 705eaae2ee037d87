use Rattle.ds_netlist.proofs.FaultyCircuits.{faults_are_in_range_lem}
use Rattle.ds_netlist.proofs.laws.faults_are_in_range.Goals as goal

pub returns : goal.returns
returns c = faults_are_in_range_lem
