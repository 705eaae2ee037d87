use Rattle.std.proofs.Common.{◌≡◌, ◌+◌, length, map, take}
use Rattle.std.specs.List.{range_with_len}
use Rattle.ds_rows.specs.Log.{value_words}
use Rattle.ds_run.specs.LatchRows.{word_values}
use Rattle.ds_run.proofs.stored.copy_stored.Given as goal

abbrev pub invariant-loop-k : goal.invariant-loop-k
invariant-loop-k l = record {
  size : length l.piece ≡ length l.fn.piece;
  copied : take l.k l.piece ≡ value_words 1
      (map (word_values l.fn.recorded.shown.view.run l.fn.latch l.fn.i) (range_with_len (l.fn.from + 1) l.k));
}
