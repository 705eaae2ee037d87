use Rattle.ds_run.proofs.StoredAsFired.{records_store_as_fired_lem}
use Rattle.ds_run.proofs.laws.records_store_as_fired.Goals as goal

pub returns : goal.returns
returns c = records_store_as_fired_lem
