use Rattle.std.proofs.Common.{◌≡◌, ◌+◌, ◌<◌, ◌≤◌, ℕ, length, true}
use mathlib.Core.Option.{some}
use lib.ListN.{get_elem?}
use Rattle.ds_rule.specs.Run.{node_of, turns}
use Rattle.ds_rule.specs.Rule.{holds, tickets}
use Rattle.ds_fabric.specs.Showing.{Belongs, Showing}
use Rattle.ds_runner.proofs.TurnstileAtStart.{fires_of}
use Rattle.ds_runner.specs.Work.{AreSingle}
use Rattle.ds_runner.proofs.gather.gather_all.Given as goal

abbrev pub invariant-taking : goal.invariant-taking
invariant-taking g l = record {
  fits : Belongs l.workload l.pass;
  single : AreSingle l.workload l.passes.items;
  room : l.pass.many + length l.passes.items ≤ l.pass.room;
  few : length l.passes.items ≤ l.workload.run.nodes;
  held : (k : ℕ) → length l.passes.items ≤ k → k < l.workload.run.nodes → holds l.pass.view k ≡ true;
  first : (k : ℕ) (p : Showing) → get_elem? l.passes.items k ≡ some p → get_elem? l.fn.passes.items k ≡ some p;
  fired : (e : ℕ) → length l.passes.items ≤ node_of l.workload.run e → node_of l.workload.run e < l.workload.run.nodes
      → length (tickets l.pass.view e) ≡ turns l.workload.run e (fires_of l.fn.passes.items 0 (node_of l.workload.run e));
}

abbrev pub decreases-taking : goal.decreases-taking
decreases-taking g l = length l.passes.items
