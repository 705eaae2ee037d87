use Rattle.ds_split.proofs.TakesNextValue.{takes_next_value_lem}
use Rattle.ds_split.proofs.laws.takes_next_value.Goals as goal

pub returns : goal.returns
returns c = takes_next_value_lem
