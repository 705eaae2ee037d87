-- Behind the lines of all turns the text of `clock` has the line `end`.
use Rattle.std.proofs.Common.{◌≡◌, ◌++◌, ℕ, List, length, refl}
use Rattle.ds_base.specs.Values.{Row}
use Rattle.ds_design.specs.Circuit.{Circuit, initial_row}
use Rattle.ds_design.specs.Rows.{Rows}
use Rattle.ds_design.specs.Trace.{AreLines, IsTrace, end_line}
use Rattle.ds_clocked.proofs.OneMoreTurn.{whole_trace}
use Rattle.ds_stage.specs.Stages.{trace_stage}
use Rattle.ds_stage.proofs.Streamed.{Spells}

pub trace_is : (c : Circuit) (first : ℕ) (last : Row) (rows : Rows) (lines : List ℕ) → length rows.rows ≡ first → AreLines c 0 (initial_row c) rows.rows lines last → IsTrace c rows.rows (lines ++ end_line last)
trace_is c first last rows lines many are = whole_trace c (initial_row c) rows.rows lines last refl are

pub trace_spells : (c : Circuit) → Spells (trace_stage c) c
trace_spells c rows lines last are = (end_line last, whole_trace c (initial_row c) rows.rows lines last refl are)
