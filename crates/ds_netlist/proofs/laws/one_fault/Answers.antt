use Rattle.ds_netlist.proofs.FaultyCircuits.{one_fault_lem}
use Rattle.ds_netlist.proofs.laws.one_fault.Goals as goal

pub returns : goal.returns
returns c = one_fault_lem
