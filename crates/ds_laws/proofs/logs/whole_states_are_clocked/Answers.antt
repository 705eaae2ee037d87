use Rattle.ds_laws.proofs.OneState.{whole_states_are_clocked}
use Rattle.ds_laws.proofs.logs.whole_states_are_clocked.Goals as goal

pub returns : goal.returns
returns c = whole_states_are_clocked
