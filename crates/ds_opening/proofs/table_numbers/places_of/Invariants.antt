use Rattle.std.proofs.Common.{take}
use Rattle.ds_opening.specs.Numbers.{AreClassPlaces}
use Rattle.ds_opening.proofs.table_numbers.places_of.Given as goal

abbrev pub invariant-loop-table : goal.invariant-loop-table
invariant-loop-table l =
    AreClassPlaces (take l.table-index l.order) l.classes.of.items l.classes.count l.places.items l.next
