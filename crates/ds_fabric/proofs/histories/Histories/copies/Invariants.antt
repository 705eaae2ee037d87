use Rattle.std.proofs.Common.{◌≡◌, ◌≤◌, ℕ, length, vec_capacity}
use mathlib.Core.Option.{some}
use lib.ListN.{get_elem?}
use Rattle.ds_fabric.specs.Separated.{IsCopy}
use Rattle.ds_fabric.specs.declared.history.History.{History}
use Rattle.ds_fabric.proofs.histories.Histories.copies.Given as goal

abbrev pub invariant-loop-i : goal.invariant-loop-i
invariant-loop-i l = record {
  long : length l.nodes.items ≡ l.i;
  each : (i : ℕ) (g h : History) → get_elem? l.self.nodes.items i ≡ some g
      → get_elem? l.nodes.items i ≡ some h → IsCopy l.limit l.self.together.items g h;
  room : vec_capacity l.self.nodes ≤ vec_capacity l.nodes;
}
