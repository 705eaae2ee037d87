use Rattle.std.specs.List.{flat_map, range_with_len}
use Rattle.ds_outside.specs.Pen.{Puts}
use Rattle.ds_run.specs.Left.{home_line}
use Rattle.ds_run.proofs.stopped.put_registers.Given as goal

abbrev pub invariant-loop-r : goal.invariant-loop-r
invariant-loop-r g l = record {
  written : Puts (g.P.Pen.writing l.initial.pen) (g.P.Pen.writing l.pen)
      (flat_map (home_line l.latches l.left.fired l.left.homes.items) (range_with_len 0 l.r));
}
