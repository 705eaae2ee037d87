use Rattle.ds_cover.specs.Series.{shelves_of}
use Rattle.ds_cover.proofs.RunBounds.{AreListed}
use Rattle.ds_cover.proofs.selections.Selections.of.Given as goal

abbrev pub invariant-loop-list : goal.invariant-loop-list
invariant-loop-list l = AreListed (shelves_of l.kinds) l.bank l.lists l.list-index l.order.items l.runs.items l.bounds.items
