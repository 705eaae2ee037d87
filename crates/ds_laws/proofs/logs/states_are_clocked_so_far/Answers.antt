use Rattle.ds_laws.proofs.StoredSoFar.{states_are_clocked_so_far}
use Rattle.ds_laws.proofs.logs.states_are_clocked_so_far.Goals as goal

pub returns : goal.returns
returns c = states_are_clocked_so_far
