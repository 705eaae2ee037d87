use Rattle.std.proofs.Common.{rules}
use Rattle.ds_demo.proofs.BuiltLists.{one_more_after}
use Rattle.ds_demo.proofs.parts.add_nets.Goals as goal

pub loop-i-preserved : goal.loop-i-preserved
loop-i-preserved c =
    one_more_after _ _ _ _ _ _ c.loop-i.invariant (search rules) c.in_ok-push.ensures.items
