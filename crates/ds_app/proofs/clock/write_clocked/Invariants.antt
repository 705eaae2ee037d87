use Rattle.std.proofs.Common.{◌≡◌, ℕ, ◌+◌, ◌-◌, ◌≤◌, List, cond}
use Rattle.ds_outside.specs.declared.files.Which.{Which}
use Rattle.ds_app.proofs.WindowEnds.{IsSoFar}
use Rattle.ds_app.proofs.clock.write_clocked.Given as goal

abbrev pub invariant-windows : goal.invariant-windows
invariant-windows g l = record {
  same_reads : g.F.Files.faults l.files ≡ g.F.Files.faults l.initial.files;
  same_writes : g.O.Sink.faults l.out ≡ g.O.Sink.faults l.initial.out;
  never_falls : (w : Which) (n : List ℕ) → g.F.Files.faults l.initial.files w n ≤ g.F.Files.faults l.files w n;
  never_fell : g.O.Sink.faults l.initial.out ≤ g.O.Sink.faults l.out;
  few : l.first ≤ 4294967295;
  circuit : l.clocked ≡ l.netlist;
  so_far : IsSoFar (g.F.Files.held l.initial.files) (g.F.Files.held l.files) l.vec l.netlist 4294967295 l.reader l.first l.more l.state (g.O.Sink.written l.initial.out) (g.O.Sink.written l.out);
}

abbrev pub decreases-windows : goal.decreases-windows
decreases-windows g l = 4294967295 - l.first + cond l.more 1 0
