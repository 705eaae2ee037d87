use Rattle.ds_table_laws.proofs.PassFreeOrOut.{one_turn_has_it_lem}
use Rattle.ds_table_laws.proofs.turns.one_turn_has_it.Goals as goal

pub returns : goal.returns
returns c = one_turn_has_it_lem
