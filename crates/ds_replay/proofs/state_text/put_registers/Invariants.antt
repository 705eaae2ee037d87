use Rattle.std.specs.List.{flat_map, range_with_len}
use Rattle.ds_outside.specs.Pen.{Puts}
use Rattle.ds_replay.specs.Kept.{register_line}
use Rattle.ds_replay.proofs.state_text.put_registers.Given as goal

abbrev pub invariant-loop-r : goal.invariant-loop-r
invariant-loop-r g l = record {
  written : Puts (g.P.Pen.writing l.initial.pen) (g.P.Pen.writing l.pen)
      (flat_map (register_line l.state l.homes) (range_with_len 0 l.r));
}
