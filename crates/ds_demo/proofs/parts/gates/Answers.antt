use Rattle.std.proofs.Common.{rules}
use Rattle.ds_demo.proofs.BuiltLists.{one_more}
use Rattle.ds_demo.proofs.parts.gates.Goals as goal

pub loop-j-preserved : goal.loop-j-preserved
loop-j-preserved c = one_more _ _ _ _ _ c.loop-j.invariant (search rules) c.in_ok-push.ensures.items
