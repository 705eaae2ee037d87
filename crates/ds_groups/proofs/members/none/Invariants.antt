use Rattle.std.proofs.Common.{◌≡◌, ◌≤◌, ◌-◌, [], length, replicate}
use Rattle.ds_groups.proofs.members.none.Given as goal

abbrev pub invariant-adding : goal.invariant-adding
invariant-adding l = (length l.groups.items ≤ l.count) × (l.groups.items ≡ replicate (length l.groups.items) [])

abbrev pub decreases-adding : goal.decreases-adding
decreases-adding l = l.count - length l.groups.items
