use Rattle.std.proofs.Common.{◌-◌, ◌≤◌, map}
use Rattle.std.specs.List.{range_with_len}
use Rattle.ds_design.specs.Trace.{value_text}
use Rattle.ds_outside.specs.Pen.{Puts}
use Rattle.ds_run.proofs.RowPieces.{values_of}
use Rattle.ds_run.proofs.stored.put_stored_values.Given as goal

abbrev pub invariant-writing : goal.invariant-writing
invariant-writing g l = record {
  within : l.done ≤ l.rows;
  written : Puts (g.P.Pen.writing l.initial.pen) (g.P.Pen.writing l.pen)
      (map value_text (map (values_of l.fn.recorded.shown.view.run l.fn.latch l.fn.place)
      (range_with_len 1 l.done)));
}

abbrev pub decreases-writing : goal.decreases-writing
decreases-writing g l = l.rows - l.done
