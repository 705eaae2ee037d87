use Rattle.ds_latch.proofs.Flow.{flow_equivalence}
use Rattle.ds_latch.proofs.laws.flow_equivalence.Goals as goal

pub returns : goal.returns
returns c = flow_equivalence
