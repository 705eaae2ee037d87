use Rattle.std.proofs.Common.{◌≡◌, List, take, length, ◌-◌, ◌≤◌, ◌/◌}
use Rattle.ds_base.specs.Values.{Row}
use Rattle.ds_outside.specs.Pen.{Puts}
use Rattle.ds_rows.specs.Log.{at_place, value_words}
use Rattle.ds_rows.proofs.RowText.{value_chars}
use Rattle.ds_rows.proofs.stored.put_stored.Given as goal

abbrev pub invariant-writing : goal.invariant-writing
invariant-writing g l = record {
  within : l.done ≤ length l.words / l.words_a_row;
  written : (rows : List Row) → l.words ≡ value_words l.words_a_row rows → Puts (g.P.Pen.writing l.initial.pen) (g.P.Pen.writing l.pen) (value_chars (take l.done (at_place l.place rows)));
}

abbrev pub decreases-writing : goal.decreases-writing
decreases-writing g l = length l.words / l.words_a_row - l.done
