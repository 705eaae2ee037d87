use Rattle.ds_table_laws.proofs.KnownTraces.{known_traces_are_known}
use Rattle.ds_table_laws.proofs.known.known_traces_are_known.Goals as goal

pub returns : goal.returns
returns c = known_traces_are_known
