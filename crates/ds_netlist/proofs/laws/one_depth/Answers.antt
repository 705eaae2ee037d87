use Rattle.ds_netlist.proofs.OneLevel.{one_depth}
use Rattle.ds_netlist.proofs.laws.one_depth.Goals as goal

pub returns : goal.returns
returns c = one_depth
