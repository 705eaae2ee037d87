use Rattle.ds_latch.proofs.NothingNew.{nothing_new_fires}
use Rattle.ds_latch.proofs.laws.nothing_new_fires.Goals as goal

pub returns : goal.returns
returns c = nothing_new_fires
