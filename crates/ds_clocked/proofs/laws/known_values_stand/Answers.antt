use Rattle.ds_design.proofs.Monotone.{known_values_stand}
use Rattle.ds_clocked.proofs.laws.known_values_stand.Goals as goal

pub returns : goal.returns
returns c = known_values_stand
