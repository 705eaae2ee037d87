use Rattle.std.proofs.Common.{◌≡◌, ℕ, ◌+◌, ◌-◌, ◌≤◌, List, cond}
use Rattle.ds_outside.specs.declared.files.Which.{Which}
use Rattle.ds_run.specs.Logged.{IsLogOf}
use Rattle.ds_run.specs.Openings.{HasConeGroups}
use Rattle.ds_stage.specs.StreamStage.{most_vectors}
use Rattle.ds_app.proofs.WindowEnds.{IsSoFar}
use Rattle.ds_app.proofs.run.write_traced.Given as goal

abbrev pub invariant-windows : goal.invariant-windows
invariant-windows g l = record {
  same_reads : g.F.Files.faults l.files ≡ g.F.Files.faults l.initial.files;
  same_writes : g.O.Sink.faults l.out ≡ g.O.Sink.faults l.initial.out;
  never_falls : (w : Which) (n : List ℕ) → g.F.Files.faults l.initial.files w n ≤ g.F.Files.faults l.files w n;
  never_fell : g.O.Sink.faults l.initial.out ≤ g.O.Sink.faults l.out;
  circuit : l.plan.split.circuit ≡ l.initial.plan.split.circuit;
  graph : l.plan.graph ≡ l.initial.plan.graph;
  cones : HasConeGroups l.plan.split l.cones.groups;
  few : l.first ≤ most_vectors l.job.log;
  logged : IsLogOf l.job.log l.initial.plan.graph l.first l.log;
  so_far : IsSoFar (g.F.Files.held l.initial.files) (g.F.Files.held l.files) l.vec l.initial.plan.split.circuit (most_vectors l.job.log) l.reader l.first l.more
      l.plan.split.initial (g.O.Sink.written l.initial.out) (g.O.Sink.written l.out);
}

abbrev pub decreases-windows : goal.decreases-windows
decreases-windows g l = most_vectors l.job.log - l.first + cond l.more 1 0
