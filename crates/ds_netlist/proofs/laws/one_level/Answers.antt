use Rattle.ds_netlist.proofs.OneLevel.{one_levels}
use Rattle.ds_netlist.proofs.laws.one_level.Goals as goal

pub returns : goal.returns
returns c = one_levels
