use Rattle.ds_text_laws.proofs.FaultOrder.{in_order}
use Rattle.ds_text_laws.proofs.blif.fault_is_in_order.Goals as goal

pub returns : goal.returns
returns c = in_order
