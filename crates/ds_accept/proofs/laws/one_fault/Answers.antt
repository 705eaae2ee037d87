use Rattle.ds_accept.proofs.OneFault.{one_fault_lem}
use Rattle.ds_accept.proofs.laws.one_fault.Goals as goal

pub returns : goal.returns
returns c = one_fault_lem
