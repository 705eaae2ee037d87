use Rattle.std.proofs.Common.{◌≡◌, ◌≤◌}
use Rattle.ds_runner.proofs.parts.reach.Given as goal

abbrev pub invariant-loop-node : goal.invariant-loop-node
invariant-loop-node g l = (l.at.node ≡ l.node) × (l.fn.from.node ≤ l.node) × (l.node ≤ l.workload.run.nodes)
