use Rattle.std.proofs.Common.{take}
use Rattle.ds_cover.specs.Series.{AreAdded, in_table_order, shelves_of}
use Rattle.ds_cover.proofs.run.add_from.Given as goal

abbrev pub invariant-loop-at : goal.invariant-loop-at
invariant-loop-at l =
    AreAdded (shelves_of l.fn.lists) (shelves_of l.lists) (in_table_order l.bank (take l.at l.order)) l.start l.fn.runs.items l.runs.items
