use Rattle.ds_run.proofs.StoredAsFired.{fabrics_show_first_lem}
use Rattle.ds_run.proofs.laws.fabrics_show_first.Goals as goal

pub returns : goal.returns
returns c = fabrics_show_first_lem
