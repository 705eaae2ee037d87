use Rattle.std.proofs.Common.{◌≡◌, ◌-◌, ◌≤◌, length, drop}
use Rattle.ds_outside.specs.Written.{appended}
use Rattle.ds_outside.specs.Handing.{GrewOn}
use Rattle.ds_outside.proofs.pending_bytes.write_from.Given as goal

abbrev pub invariant-loop-done : goal.invariant-loop-done
invariant-loop-done g l = record {
  from : l.start ≤ l.done;
  within : l.done ≤ length l.piece;
  same : appended (g.O.Sink.written l.sink) (drop l.done l.piece) ≡ appended (g.O.Sink.written l.initial.sink) (drop l.start l.piece);
  grew : GrewOn (g.O.Sink.written l.initial.sink) (g.O.Sink.written l.sink);
  same_faults : g.O.Sink.faults l.sink ≡ g.O.Sink.faults l.initial.sink;
}

abbrev pub decreases-loop-done : goal.decreases-loop-done
decreases-loop-done g l = length l.piece - l.done
