use Rattle.std.proofs.Common.{◌≡◌, length}
use Rattle.ds_opening.proofs.schedule.ranks_of.Given as goal

abbrev pub invariant-loop-table : goal.invariant-loop-table
invariant-loop-table l = length l.ranks.items ≡ length l.gates
