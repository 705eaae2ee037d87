use Rattle.std.proofs.Common.{◌≡◌, List, drop, take, map}
use Rattle.ds_base.specs.Values.{Row}
use Rattle.ds_design.specs.Trace.{value_text}
use Rattle.ds_rows.specs.Log.{at_place, value_words}
use Rattle.ds_rows.proofs.stored.fill.Given as goal

abbrev pub invariant-loop-i : goal.invariant-loop-i
invariant-loop-i l = (rows : List Row) → l.words ≡ value_words l.words_a_row rows
    → take l.i l.piece ≡ map value_text (take l.i (drop l.from (at_place l.place rows)))
