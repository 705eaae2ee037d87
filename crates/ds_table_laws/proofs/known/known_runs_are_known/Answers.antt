use Rattle.ds_table_laws.proofs.RunsAreKnown.{known_runs_are_known}
use Rattle.ds_table_laws.proofs.known.known_runs_are_known.Goals as goal

pub returns : goal.returns
returns c = known_runs_are_known
