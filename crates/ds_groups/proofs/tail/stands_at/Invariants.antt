use Rattle.std.proofs.Common.{◌≤◌, length}
use Rattle.ds_groups.proofs.tail.stands_at.Given as goal

abbrev pub invariant-comparing : goal.invariant-comparing
invariant-comparing l = l.left ≤ length l.bytes

abbrev pub decreases-comparing : goal.decreases-comparing
decreases-comparing l = l.left
