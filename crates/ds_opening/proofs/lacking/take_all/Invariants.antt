use Rattle.std.proofs.Common.{take}
use Rattle.ds_opening.specs.Lacking.{AreTaken}
use Rattle.ds_opening.proofs.lacking.take_all.Given as goal

abbrev pub invariant-loop-table : goal.invariant-loop-table
invariant-loop-table l = AreTaken (take l.table-index l.tables) l.fn.counts.items l.counts.items
