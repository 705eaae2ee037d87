use Rattle.ds_latch.proofs.Stable.{stability}
use Rattle.ds_latch.proofs.laws.stability.Goals as goal

pub returns : goal.returns
returns c = stability
