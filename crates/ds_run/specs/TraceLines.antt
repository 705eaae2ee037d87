-- The lines of some turns of a run that went to its end.
use Rattle.std.specs.Prelude.{◌≡◌, ℕ, ◌++◌, List, length}
use Rattle.ds_base.specs.Values.{Row}
use Rattle.ds_latch.specs.Plan.{Planned}
use Rattle.ds_clocked.specs.Loop.{IsWrittenTo}
use Rattle.ds_fabric.specs.Showing.{Recorder}
use Rattle.ds_run.specs.RunOfPlan.{AreValues}
use Rattle.ds_run.specs.TraceRows.{HasLine}
use Rattle.ds_run.specs.declared.trace_rows.TraceRows.{TraceRows}
use Rattle.ds_run.specs.Finished.{IsFinished, IsFinishedOn}

-- the row is that of the registers before turn k, from 0
abbrev pub AreRegistersBefore : Planned → Recorder → ℕ → ℕ → Row → Type 0
AreRegistersBefore p r turns k row =
    (vectors : List Row) → IsFinishedOn p turns r vectors
    → (values : AreValues p.split vectors r.shown.view.run) → row ≡ values.state k

-- a line that has its rows, and the registers before turn k
pub record HasLineBefore (p : Planned) (r : Recorder) (turns k : ℕ) (line : TraceRows)
    : Type 0 where
  pub has : HasLine p.split line
  pub registers : AreRegistersBefore p r turns k line.registers

-- the lines up to one turn go on by a text like this to the lines up to another
abbrev pub AreLinesOf : Planned → Recorder → ℕ → ℕ → ℕ → ℕ → (List ℕ → Type 0) → Type 0
AreLinesOf p r turns first from to IsText =
    (vectors : List Row) (finished : IsFinished p vectors r) → length vectors ≡ turns
    → (before : List ℕ)
    → IsWrittenTo p.split.circuit first p.split.initial vectors from
    (finished.planned.values_are.state from) (λ lines. lines ≡ before)
    → IsWrittenTo p.split.circuit first p.split.initial vectors to
    (finished.planned.values_are.state to)
    (λ lines. (text : List ℕ) × (lines ≡ before ++ text) × IsText text)
