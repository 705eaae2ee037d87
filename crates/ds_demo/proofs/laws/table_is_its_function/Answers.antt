use Rattle.ds_demo.proofs.Computed.{computed}
use Rattle.ds_demo.proofs.laws.table_is_its_function.Goals as goal

pub returns : goal.returns
returns c = computed
