-- The rows that a line of a trace is written from.
use Rattle.std.specs.Prelude.{◌≡◌, ℕ, ◌+◌, length}
use Rattle.ds_base.specs.Values.{Row}
use Rattle.ds_latch.specs.Node.{Split, number_of}
use Rattle.ds_latch.specs.Firing.{AreRegisters}
use Rattle.ds_rule.specs.Run.{Run}
use Rattle.ds_rule.specs.Words.{node_values as stored_at}
use Rattle.ds_run.specs.declared.trace_rows.TraceRows.{TraceRows}

-- each row of a line has its length
pub record HasLine (s : Split) (line : TraceRows) : Type 0 where
  pub outputs : length line.outputs ≡ length s.circuit.outputs
  pub registers : length line.registers ≡ length s.circuit.registers

-- the row shows what the slaves have stored in a turn, as no other one does
abbrev pub IsGathered : Split → Run → ℕ → Row → Type 0
IsGathered s run k row =
    (other : Row) → AreRegisters s (λ n. stored_at run (number_of n) (k + 1)) other → row ≡ other
