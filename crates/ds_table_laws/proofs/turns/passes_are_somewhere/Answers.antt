use Rattle.ds_table_laws.proofs.PassFreeOrOut.{passes_are_somewhere_lem}
use Rattle.ds_table_laws.proofs.turns.passes_are_somewhere.Goals as goal

pub returns : goal.returns
returns c = passes_are_somewhere_lem
