use Rattle.std.proofs.Common.{◌≤◌, length}
use Rattle.ds_groups.proofs.tail.end_of.Given as goal

abbrev pub invariant-stars : goal.invariant-stars
invariant-stars l = l.end ≤ length l.word

abbrev pub decreases-stars : goal.decreases-stars
decreases-stars l = l.end
