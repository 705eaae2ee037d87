use Rattle.std.proofs.Common.{◌≤◌}
use Rattle.ds_fabric.proofs.counts.lacking_between.Given as goal

abbrev pub invariant-loop-i : goal.invariant-loop-i
invariant-loop-i g l = l.first ≤ l.i
