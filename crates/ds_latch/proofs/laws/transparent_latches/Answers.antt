use Rattle.ds_latch.proofs.TransparentLatches.{transparent_latches}
use Rattle.ds_latch.proofs.laws.transparent_latches.Goals as goal

pub returns : goal.returns
returns c = transparent_latches
