use Rattle.std.proofs.Common.{◌≡◌, drop, length}
use Rattle.ds_cover.specs.Small.{after_worded, paired, worded_by}
use Rattle.ds_cover.proofs.shelf.put_words.Given as goal

abbrev pub invariant-loop-i : goal.invariant-loop-i
invariant-loop-i g l =
    let worded = worded_by g.S.SmallTable.small g.S.WordedTable.values in
    record {
      same : length l.nets ≡ length l.initial.nets;
      rest : after_worded (paired worded l.tables l.words) l.initial.nets ≡ after_worded (paired worded (drop l.i l.tables) (drop l.i l.words)) l.nets;
    }
