use Rattle.std.proofs.Common.{◌≡◌, ◌-◌, ◌≤◌, length, take}
use Rattle.ds_outside.specs.Written.{appended}
use Rattle.ds_outside.specs.Handing.{GrewOn}
use Rattle.ds_outside.proofs.pending_bytes.PendingBytes.take.Given as goal

abbrev pub invariant-loop-done : goal.invariant-loop-done
invariant-loop-done g l = record {
  within : l.done ≤ length l.piece;
  so_far : appended (g.O.Sink.written l.sink) l.self ≡ appended (appended (g.O.Sink.written l.initial.sink) l.initial.self) (take l.done l.piece);
  grew : GrewOn (g.O.Sink.written l.initial.sink) (g.O.Sink.written l.sink);
  faults : g.O.Sink.faults l.sink ≡ g.O.Sink.faults l.initial.sink;
}

abbrev pub decreases-loop-done : goal.decreases-loop-done
decreases-loop-done g l = length l.piece - l.done
