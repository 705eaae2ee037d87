use Rattle.std.proofs.Common.{◌≡◌, ◌<◌, ℕ, length, take}
use Rattle.std.specs.Prelude.{slice_index}
use Rattle.ds_marked.specs.Graph.{counts_after}
use Rattle.ds_run.specs.Logged.{PutsLog}
use Rattle.ds_run.proofs.log.put_firings.Given as goal

abbrev pub invariant-loop-i : goal.invariant-loop-i
invariant-loop-i g l = record {
  one_each : length l.counts ≡ length l.plan.graph.events;
  counts : (v : ℕ) → v < length l.plan.graph.events
      → slice_index l.counts v ≡ counts_after (λ _. 0) (take l.i l.events) v;
  written : PutsLog (g.P.Pen.writing l.initial.pen) (g.P.Pen.writing l.pen) l.plan.graph (take l.i l.events);
}
