use Rattle.ds_latch.proofs.Flow.{one_row_taken}
use Rattle.ds_latch.proofs.laws.one_row_taken.Goals as goal

pub returns : goal.returns
returns c = one_row_taken
