use Rattle.ds_latch.proofs.Flow.{some_firing}
use Rattle.ds_latch.proofs.laws.some_firing.Goals as goal

pub returns : goal.returns
returns c = some_firing
