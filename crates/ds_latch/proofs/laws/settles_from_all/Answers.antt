use Rattle.ds_latch.proofs.Flow.{settles_from_all}
use Rattle.ds_latch.proofs.laws.settles_from_all.Goals as goal

pub returns : goal.returns
returns c = settles_from_all
