-- A run's lines and its last row are a trace.
use Rattle.std.proofs.Common.{◌≡◌, ◌++◌, length, refl}
use Rattle.std.proofs.lemmas.List.{length-map}
use Rattle.ds_design.specs.Circuit.{initial_row, initial_value}
use Rattle.ds_design.specs.Trace.{end_line, trace_lines}
use Rattle.ds_design.specs.declared.design.Register.{Register}
use Rattle.ds_design.proofs.ClockedRuns.{some_run}
use Rattle.ds_table_laws.specs.Traces.{TracesExist}

-- a clocked run from the initial row spells a trace
pub traces_exist : TracesExist
traces_exist c range accepted vectors wide =
    let long : length (initial_row c) ≡ length c.registers = length-map c.registers (λ (r : Register). initial_value r.initial) in
    let (state, nets, run) = some_run c range accepted (initial_row c) vectors long wide in (
      trace_lines c 0 (length vectors) state nets ++ end_line (state (length vectors)),
      record {
        lines = trace_lines c 0 (length vectors) state nets;
        last = state (length vectors);
        is_trace = record { state = state; nets = nets; run = run; spelt = refl; ends = refl };
        spelt = refl;
      },
    )
