use Rattle.ds_split.proofs.SettlesNextValue.{settles_next_value_lem}
use Rattle.ds_split.proofs.laws.settles_next_value.Goals as goal

pub returns : goal.returns
returns c = settles_next_value_lem
