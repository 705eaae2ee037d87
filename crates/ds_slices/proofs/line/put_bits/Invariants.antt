use Rattle.std.proofs.Common.{take, length, ◌-◌, ◌≤◌}
use Rattle.ds_outside.specs.Pen.{Puts}
use Rattle.ds_rows.proofs.RowText.{value_chars}
use Rattle.ds_slices.specs.Turns.{turn_row}
use Rattle.ds_slices.proofs.line.put_bits.Given as goal

abbrev pub invariant-writing : goal.invariant-writing
invariant-writing g l = record {
  within : l.done ≤ length l.bytes;
  written : Puts (g.P.Pen.writing l.initial.pen) (g.P.Pen.writing l.pen) (value_chars (take l.done (turn_row l.bytes l.turn)));
}

abbrev pub decreases-writing : goal.decreases-writing
decreases-writing g l = length l.bytes - l.done
