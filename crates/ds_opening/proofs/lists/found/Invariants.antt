use Rattle.std.proofs.Common.{take}
use Rattle.ds_opening.specs.Lists.{AreFoundSoFar}
use Rattle.ds_opening.proofs.lists.found.Given as goal

abbrev pub invariant-loop-table : goal.invariant-loop-table
invariant-loop-table l =
    AreFoundSoFar (take l.table-index l.tables) l.of l.fn.seen.items l.stamp l.seen.items l.list
