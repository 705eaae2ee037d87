use Rattle.ds_latch.proofs.Reordered.{reordered_is_legal}
use Rattle.ds_latch.proofs.laws.reordered_is_legal.Goals as goal

pub returns : goal.returns
returns c = reordered_is_legal
