use Rattle.std.proofs.Common.{◌≡◌, drop, length, map}
use Rattle.ds_cover.specs.Small.{after_smalls}
use Rattle.ds_cover.proofs.shelf.put_tables.Given as goal

abbrev pub invariant-loop-table : goal.invariant-loop-table
invariant-loop-table g l =
    let small = g.S.SmallTable.small in
    record {
      same : length l.nets ≡ length l.initial.nets;
      rest : after_smalls (map small l.tables) l.initial.nets ≡ after_smalls (map small (drop l.table-index l.tables)) l.nets;
    }
