use Rattle.std.proofs.Common.{◌≡◌, ◌<◌, ◌≤◌, ℕ, length, slice_index}
use Rattle.ds_rule.specs.Sound.{edge_at}
use Rattle.ds_fabric.specs.Ranged.{IsFrom}
use Rattle.ds_fabric.proofs.index.firsts.Given as goal

abbrev pub invariant-loop-node : goal.invariant-loop-node
invariant-loop-node g l = record {
  long : length l.firsts.items ≡ l.node;
  each : (x : ℕ) → x < l.node → IsFrom l.fn.run x (slice_index l.firsts.items x);
  near : l.at ≤ length l.fn.run.edges;
  passed : (k : ℕ) → k < l.at → (edge_at l.fn.run k).consumer < l.node;
}
