use Rattle.ds_laws.proofs.Stored.{stored_are_there}
use Rattle.ds_laws.proofs.latches.stored_are_there.Goals as goal

pub returns : goal.returns
returns c = stored_are_there
