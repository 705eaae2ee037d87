-- A turn of a run that went to its end.
use Rattle.std.proofs.Common.{◌≡◌, ◌∙◌, ℕ, ◌+◌, ◌<◌, List, ◌++◌, length, ap, sym, subst}
use Rattle.std.proofs.lemmas.List.{length-map}
use Rattle.ds_base.specs.Values.{Row}
use Rattle.ds_cover.specs.Cover.{value_at, values_at}
use Rattle.ds_design.specs.Circuit.{data_nets}
use Rattle.ds_latch.specs.Node.{Split}
use Rattle.ds_latch.specs.Plan.{Planned}
use Rattle.ds_design.specs.Run.{row_at}
use Rattle.ds_design.specs.Trace.{trace_line}
use Rattle.ds_design.specs.Valuation.{IsValuation}
use Rattle.ds_clocked.specs.Loop.{IsWrittenTo}
use Rattle.ds_clocked.proofs.OneMoreTurn.{one_turn}
use Rattle.ds_rule.specs.Words.{node_values as stored_at}
use Rattle.ds_fabric.specs.Showing.{Recorder}
use Rattle.ds_run.specs.RunOfPlan.{AreValues}
use Rattle.ds_run.specs.declared.trace_rows.TraceRows.{TraceRows}
use Rattle.ds_run.specs.TraceRows.{HasLine, IsGathered}
use Rattle.ds_run.specs.Finished.{IsFinished}
use Rattle.ds_run.proofs.NodeRecords.{outputs_are, registers_are}

-- a line with other outputs, of a split design that is known
line_with : (s t : Split) (line : TraceRows) (outputs : Row) → t ≡ s → HasLine s line
    → length outputs ≡ length s.circuit.outputs
    → HasLine t (record { outputs = outputs; registers = line.registers })
line_with s t line outputs same has long =
    let with : TraceRows = record { outputs = outputs; registers = line.registers } in
    subst (λ (q : Split). HasLine q with) (sym same)
    (record { outputs = long; registers = has.registers })

module _ (p : Planned) (vectors : List Row) (r : Recorder) (finished_run : IsFinished p vectors r)
    (k : ℕ) (below : k < length vectors) where
  -- what was read of OUT are the outputs of the turn
  pub outputs_read : (values : AreValues p.split vectors r.shown.view.run) (n : ℕ) (row : Row)
      → n ≡ 1 → row ≡ stored_at r.shown.view.run n (k + 1)
      → row ≡ values_at (values.nets k) p.split.circuit.outputs
  outputs_read values n row at is =
      is
      ∙ (ap (λ (m : ℕ). stored_at r.shown.view.run m (k + 1)) at
      ∙ outputs_are p vectors r finished_run k below values)

  pub outputs_long : (n : ℕ) (row : Row) → n ≡ 1 → row ≡ stored_at r.shown.view.run n (k + 1)
      → length row ≡ length p.split.circuit.outputs
  outputs_long n row at is =
      let values : AreValues p.split vectors r.shown.view.run = finished_run.planned.values_are in
      ap length (outputs_read values n row at is)
      ∙ length-map p.split.circuit.outputs (value_at (values.nets k))

  pub line_read : (t : Split) (line : TraceRows) (n : ℕ) (row : Row) → t ≡ p.split
      → HasLine p.split line → n ≡ 1 → row ≡ stored_at r.shown.view.run n (k + 1)
      → HasLine t (record { outputs = row; registers = line.registers })
  line_read t line n row same has at is =
      line_with p.split t line row same has (outputs_long n row at is)

  -- the registers that were gathered are those after the turn
  pub gathered_is : (t : Split) (row : Row) → t ≡ p.split → IsGathered t r.shown.view.run k row
      → (values : AreValues p.split vectors r.shown.view.run) → row ≡ values.state (k + 1)
  gathered_is t row same gathered values =
      subst (λ (q : Split). IsGathered q r.shown.view.run k row) same gathered
      (values.state (k + 1)) (registers_are p vectors r finished_run k below values)

  -- one line more was written
  pub turn_written : (first : ℕ) (t : Split) (n : ℕ) (outputs before next : Row)
      (Before After : List ℕ → Type 0) → n ≡ 1
      → outputs ≡ stored_at r.shown.view.run n (k + 1)
      → ((values : AreValues p.split vectors r.shown.view.run) → before ≡ values.state k)
      → t ≡ p.split → IsGathered t r.shown.view.run k next
      → IsWrittenTo p.split.circuit first p.split.initial vectors k before Before
      → ((text : List ℕ) → Before text → After (text ++ trace_line (first + k) outputs before))
      → IsWrittenTo p.split.circuit first p.split.initial vectors (k + 1) next After
  turn_written first t n outputs before next Before After at is was same gathered done line =
      let values : AreValues p.split vectors r.shown.view.run = finished_run.planned.values_are in
      let nets : Row = finished_run.planned.values_are.nets k in
      let settled : IsValuation p.split.circuit before (row_at vectors k) nets =
      subst (λ (row : Row). IsValuation p.split.circuit row (row_at vectors k) nets)
      (sym (was values)) (values.clocked.settles k below) in
      let taken : values_at nets (data_nets p.split.circuit) ≡ next =
      sym (gathered_is t next same gathered values ∙ values.clocked.steps k below) in
      let spelt : trace_line (first + k) outputs before
      ≡ trace_line (first + k) (values_at nets p.split.circuit.outputs) before =
      ap (λ (o : Row). trace_line (first + k) o before) (outputs_read values n outputs at is) in
      subst (λ (row : Row). IsWrittenTo p.split.circuit first p.split.initial vectors (k + 1) row
      After) taken
      (one_turn p.split.circuit first p.split.initial vectors k before nets Before After below done
      settled (λ text had. subst (λ (l : List ℕ). After (text ++ l)) spelt (line text had)))
