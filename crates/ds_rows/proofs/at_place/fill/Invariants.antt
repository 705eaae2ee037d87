use Rattle.std.proofs.Common.{◌≡◌, drop, take, map}
use Rattle.ds_design.specs.Trace.{value_text}
use Rattle.ds_rows.specs.Log.{joined_at_place}
use Rattle.ds_rows.proofs.at_place.fill.Given as goal

abbrev pub invariant-loop-i : goal.invariant-loop-i
invariant-loop-i l = take l.i l.piece ≡ map value_text (take l.i (drop l.from (joined_at_place l.width l.place l.values)))
