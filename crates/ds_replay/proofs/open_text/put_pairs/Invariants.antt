use Rattle.std.specs.List.{flat_map, range_with_len}
use Rattle.ds_outside.specs.Pen.{Puts}
use Rattle.ds_fire.specs.Snapshot.{count_of, held_row}
use Rattle.ds_replay.specs.OpenLines.{open_pair}
use Rattle.ds_replay.proofs.open_text.put_pairs.Given as goal

abbrev pub invariant-loop-i : goal.invariant-loop-i
invariant-loop-i g l = record {
  written : Puts (g.P.Pen.writing l.initial.pen) (g.P.Pen.writing l.pen)
      (flat_map (open_pair (count_of l.state) (held_row l.state)) (range_with_len 0 l.i));
}
