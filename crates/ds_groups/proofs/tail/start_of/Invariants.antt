use Rattle.std.proofs.Common.{◌≤◌}
use Rattle.ds_groups.proofs.Tails.{HaveNoStar}
use Rattle.ds_groups.proofs.tail.start_of.Given as goal

abbrev pub invariant-bytes : goal.invariant-bytes
invariant-bytes l = (l.start ≤ l.end) × HaveNoStar l.word l.start l.end

abbrev pub decreases-bytes : goal.decreases-bytes
decreases-bytes l = l.start
