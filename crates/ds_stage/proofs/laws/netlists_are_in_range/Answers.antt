use Rattle.ds_stage.proofs.FileMeaning.{netlist_in_range}
use Rattle.ds_stage.proofs.laws.netlists_are_in_range.Goals as goal

pub returns : goal.returns
returns c = netlist_in_range
