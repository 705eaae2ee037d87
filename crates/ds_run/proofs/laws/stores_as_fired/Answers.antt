use Rattle.ds_run.proofs.StoredAsFired.{stores_as_fired_lem}
use Rattle.ds_run.proofs.laws.stores_as_fired.Goals as goal

pub returns : goal.returns
returns c = stores_as_fired_lem
