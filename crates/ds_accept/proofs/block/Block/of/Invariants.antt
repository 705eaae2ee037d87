use Rattle.ds_accept.proofs.Blocks.{IsGrowing}
use Rattle.ds_accept.proofs.block.Block.of.Given as goal

abbrev pub invariant-loop-place : goal.invariant-loop-place
invariant-loop-place l = IsGrowing l.asked l.from l.place l.sources.items l.bits.items
