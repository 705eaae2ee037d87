use Rattle.std.proofs.Common.{◌≡◌, ◌<◌, ℕ, length, slice_index}
use Rattle.ds_rule.specs.Sound.{read_words}
use Rattle.ds_fabric.proofs.build.reads.Given as goal

abbrev pub invariant-loop-i : goal.invariant-loop-i
invariant-loop-i g l = record {
  long : length l.totals.items ≡ l.fn.run.nodes;
  each : (x : ℕ) → x < l.fn.run.nodes → slice_index l.totals.items x ≡ read_words l.fn.run x l.i;
}
