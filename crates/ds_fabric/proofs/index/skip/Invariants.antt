use Rattle.std.proofs.Common.{◌<◌, ℕ}
use Rattle.ds_rule.specs.Sound.{edge_at}
use Rattle.ds_fabric.proofs.index.skip.Given as goal

abbrev pub invariant-loop-i : goal.invariant-loop-i
invariant-loop-i g l = (k : ℕ) → k < l.i → (edge_at l.fn.run k).consumer < l.fn.node
