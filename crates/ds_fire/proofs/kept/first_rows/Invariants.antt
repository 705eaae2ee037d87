use Rattle.std.proofs.Common.{◌≡◌, ◌<◌, ◌≤◌, ◌==◌, if◌then◌else◌, ℕ, length}
use Rattle.ds_latch.specs.Node.{IsNode, number_of, zeros}
use Rattle.ds_latch.specs.declared.node.Node.{Node}
use Rattle.ds_latch.specs.Firing.{first_row}
use Rattle.ds_fire.specs.Snapshot.{row_index, rows_of}
use Rattle.ds_fire.proofs.kept.first_rows.Given as goal

abbrev pub invariant-loop-k : goal.invariant-loop-k
invariant-loop-k l = record {
  one_each : length l.rows.items ≡ l.k;
  each : (n : Node) → IsNode l.latches n → (place : ℕ) → place ≤ l.latches.slack → row_index l.latches (number_of n) place < l.k
      → rows_of l.latches l.rows.items n place ≡ (if place == 0 then first_row l.latches n else zeros l.latches n);
}
