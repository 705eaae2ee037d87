use Rattle.std.proofs.Common.{◌≡◌, ◌+◌, ◌<◌, ℕ}
use Rattle.std.specs.Prelude.{Contains}
use Rattle.ds_base.specs.Values.{Row}
use Rattle.ds_cover.specs.Cover.{value_at}
use Rattle.ds_latch.specs.Node.{members, number_of}
use Rattle.ds_latch.specs.Firing.{AreRegisters}
use Rattle.ds_rule.specs.Words.{node_values as stored_at}
use Rattle.ds_run.specs.TraceRows.{HasLine}
use Rattle.ds_run.proofs.trace_rows.copy_stored.Given as goal

abbrev pub invariant-loop-i : goal.invariant-loop-i
invariant-loop-i l = record {
  line : HasLine l.latches l.line;
  outputs : l.line.outputs ≡ l.initial.line.outputs;
  right : (row : Row) → AreRegisters l.latches
      (λ n. stored_at l.recorded.shown.view.run (number_of n) (l.k + 1)) row
      → (i : ℕ) → i < l.i → (r : ℕ) → Contains (members l.latches i) r
      → value_at l.line.registers r ≡ value_at row r;
}
