use Rattle.std.proofs.Common.{◌≡◌, drop, take, map}
use Rattle.ds_design.specs.Trace.{value_text}
use Rattle.ds_slices.specs.Turns.{turn_row}
use Rattle.ds_slices.proofs.line.fill.Given as goal

abbrev pub invariant-loop-i : goal.invariant-loop-i
invariant-loop-i l = take l.i l.piece ≡ map value_text (take l.i (drop l.from (turn_row l.bytes l.turn)))
