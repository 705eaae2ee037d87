use Rattle.std.proofs.Common.{take}
use Rattle.ds_opening.specs.Classes.{AreSplit}
use Rattle.ds_opening.proofs.classes.split.Given as goal

abbrev pub invariant-loop-table : goal.invariant-loop-table
invariant-loop-table l =
    AreSplit l.first (take l.table-index l.tables) l.fn.classes.items l.classes.items l.moved.items
