-- Windows whose lines are written out of words.
use Rattle.std.specs.Prelude.{◌≡◌, ℕ, List, length, All}
use Rattle.ds_base.specs.Values.{AreKnown, Row}
use Rattle.ds_cover.specs.Cover.{values_at}
use Rattle.ds_design.specs.Circuit.{Circuit, register_nets}
use Rattle.ds_design.specs.Trace.{trace_lines}
use Rattle.ds_outside.specs.Pen.{Puts, Writing}
use Rattle.ds_slices.specs.Ready.{AreReady}
use Rattle.ds_slices.specs.Turns.{turn_row}
use Rattle.ds_clocked.specs.declared.words.Sliced.{Sliced}

-- room for a window that begins with these registers, and all values are known
pub record IsKnownWindow (c : Circuit) (start : Row) (vectors : List Row) (words : Sliced)
    : Type 0 where
  pub state : words.state ≡ start
  pub ready : AreReady c words.slices
  pub one_each : length start ≡ length c.registers
  pub start_known : AreKnown start
  pub vectors_known : All AreKnown vectors

-- the registers in a turn, by the words of the nets that they drive
abbrev pub registers_in : Circuit → List ℕ → ℕ → Row
registers_in c words k = values_at (turn_row words k) (register_nets c)

-- a pen went over the lines of so many turns of words, numbered from a first one on
abbrev pub PutsTurns : Writing → Writing → Circuit → ℕ → ℕ → List ℕ → Type 0
PutsTurns old new c first count words =
    Puts old new (trace_lines c first count (registers_in c words) (turn_row words))
