use Rattle.std.proofs.Common.{◌≡◌, [], replicate}
use Rattle.ds_opening.proofs.members.empty_lists.Given as goal

abbrev pub invariant-loop-list : goal.invariant-loop-list
invariant-loop-list l = l.lists.items ≡ replicate l._list []
