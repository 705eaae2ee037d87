use Rattle.ds_fabric.specs.Chained.{IsChained}
use Rattle.ds_fabric.proofs.chain.Chains.of.Given as goal

abbrev pub invariant-loop-i : goal.invariant-loop-i
invariant-loop-i g l = IsChained l.fn.run l.i l.heads.items l.links.items
