use Rattle.std.proofs.Common.{◌≡◌, ◌∙◌, ℕ, false, List, [], Err, length, ap, arith, refl, subst, sym}
use Rattle.std.proofs.lemmas.Result.{err_from_is_err_and}
use Rattle.ds_outside.specs.Held.{Held}
use Rattle.ds_clocked.specs.Appends.{AppendsLines, AppendsLinesPart}
use Rattle.ds_design.specs.Circuit.{Circuit, columns, initial_row}
use Rattle.ds_design.specs.Trace.{end_line}
use Rattle.ds_stream.specs.Stream.{Shown}
use Rattle.ds_stage.specs.Stages.{trace_stage}
use Rattle.ds_stage.specs.Ends.{RoseIn, output_between}
use Rattle.ds_stage.proofs.FaultCounts.{unread_or, unwritten_or}
use Rattle.ds_stage.proofs.Streamed.{memory_stops, none_written, of_none}
use Rattle.ds_app.proofs.ClockEnds.{trace_is, trace_spells}
use Rattle.ds_app.proofs.RunEnds.{few_vectors}
use Rattle.ds_app.proofs.FaultCountsSince.{unread_since}
use Rattle.ds_app.proofs.WindowEnds.{no_more, none_so_far, one_more, registers_long, rest_ends, rest_fails, same_written, window_ends}
use Rattle.ds_app.proofs.clock.write_clocked.Goals as goal

pub new-reader-requires : goal.new-reader-requires
new-reader-requires g c = rw c.most_vectors.ensures (few_vectors false)

pub windows-init : goal.windows-init
windows-init g c =
    let is = c.new-reader.ensures.value in
    record {
      same_reads = refl;
      same_writes = refl;
      never_falls = λ w n. omega arith;
      never_fell = omega arith;
      few = omega arith;
      circuit = c.new-clocked.ensures;
      so_far = none_so_far (g.F.Files.held c.args.files.now) c.args.vec.now c.args.netlist.now 4294967295 c.new-reader.result c.in_ok-state.state (g.O.Sink.written c.args.out.now)
          (record { width = ap (λ (s : Shown). s.width) is ∙ ap length c.columns.ensures; most_is = ap (λ (s : Shown). s.most) is ∙ c.most_vectors.ensures })
          (ap (λ (s : Shown). s.given) is) (c.new-reader.ensures.fits (g.F.Files.held c.args.files.now c.args.vec.now)) c.in_ok-state.ensures.row;
    }

pub returns-in_err-state : goal.returns-in_err-state
returns-in_err-state g c =
    let held : List ℕ → Held = g.F.Files.held c.args.files.now in
    let vec : List ℕ = c.args.vec.now in
    let circuit : Circuit = c.args.netlist.now in
    let p = err_from_is_err_and c.from_residual.result c.from_residual.ensures.1 in
    rw (p.1, p.2) (record {
      value = memory_stops (Unit {0}) held vec circuit 4294967295 (trace_stage circuit) (RoseIn (g.F.Files.faults c.args.files.now) (g.F.Files.faults c.args.files.now))
          (output_between g.O.Sink.written g.O.Sink.faults c.args.out.now c.args.out.now) 0 [] (initial_row circuit) (of_none (held vec) circuit 4294967295) (none_written circuit (g.O.Sink.written c.args.out.now));
      same_held = refl;
      same_reads = tt;
      same_writes = refl;
    })

pub returns-in_err-behind : goal.returns-in_err-behind
returns-in_err-behind g c =
    let kept = c.windows.invariant in
    let is = c.in_err-behind.ensures in
    let p = err_from_is_err_and c.from_residual-in_err-behind.result c.from_residual-in_err-behind.ensures.1 in
    rw (p.1, p.2) (record {
      value = no_more kept.so_far c.windows-test.true (trace_stage c.args.netlist.now) (g.F.Files.faults c.args.files.now) (g.F.Files.faults c.windows.files) (g.F.Files.faults c.read_window.new.files)
          kept.never_falls (g.O.Sink.faults c.args.out.now) (g.O.Sink.faults c.windows.out) c.in_err-behind.field-0.0 is.gives;
      same_held = is.same_held ∙ kept.so_far.same;
      same_reads = unread_since _ c.in_err-behind.field-0.0 kept.same_reads is.same_reads;
      same_writes = unwritten_or c.in_err-behind.field-0.0 kept.same_writes;
    })

pub simulate_from-requires-clause-width : goal.simulate_from-requires-clause-width
simulate_from-requires-clause-width g c =
    let is : c.windows.clocked ≡ c.args.netlist.now = c.windows.invariant.circuit in
    c.in_ok-behind.ensures.width
    ∙ (c.windows.invariant.so_far.of.width ∙ ap (λ (k : Circuit). length (columns k)) (sym is))

pub simulate_from-requires-clause-start : goal.simulate_from-requires-clause-start
simulate_from-requires-clause-start g c =
    let is : c.windows.clocked ≡ c.args.netlist.now = c.windows.invariant.circuit in
    registers_long c.windows.invariant.so_far ∙ ap (λ (k : Circuit). length k.registers) (sym is)

pub returns-in-Err : goal.returns-in-Err
returns-in-Err g c =
    let kept = c.windows.invariant in
    let read = c.in_ok-behind.ensures in
    let is = c.in-Err.ensures in
    record {
      value = window_ends kept.so_far c.windows-test.true c.in_ok-behind.behind c.in_ok-behind.vectors read.gives read.width c.count-turns.ensures.kept.one_width c.in_ok-state.ensures.in_range c.in_ok-state.ensures.accepted
          (trace_stage c.args.netlist.now) (trace_spells c.args.netlist.now) (RoseIn (g.F.Files.faults c.args.files.now) (g.F.Files.faults c.read_window.new.files)) (g.O.Sink.written c.simulate_from.new.out)
          (g.O.Sink.faults c.args.out.now) (g.O.Sink.faults c.windows.out) (g.O.Sink.faults c.simulate_from.new.out) kept.never_fell c.in-Err.fault c.stop_of.result c.stop_of.ensures
          (λ e. subst (λ (k : Circuit). AppendsLinesPart k c.windows.first c.windows.state c.in_ok-behind.vectors.rows (g.O.Sink.written c.windows.out) (g.O.Sink.written c.simulate_from.new.out)) kept.circuit (is.part (ap Err e)))
          (λ e. is.cause (ap Err e)) (λ e. is.same (ap Err e));
      same_held = read.same_held ∙ kept.so_far.same;
      same_reads = unread_or c.stop_of.result (read.same_reads ∙ kept.same_reads);
      same_writes = same_written c.in-Err.fault c.stop_of.result c.stop_of.ensures (λ e. is.same_faults (λ failed. cc) ∙ kept.same_writes);
    }

pub windows-preserved : goal.windows-preserved
windows-preserved g c =
    let kept = c.windows.invariant in
    let read = c.in_ok-behind.ensures in
    let most_is = read.behind.most ∙ kept.so_far.of.most_is in
    record {
      same_reads = read.same_reads ∙ kept.same_reads;
      same_writes = c.in-Ok.ensures.same_faults (λ failed. cc) ∙ kept.same_writes;
      never_falls = λ w n. omega (arith, kept.never_falls w n, read.never_falls w n);
      never_fell = omega (arith, kept.never_fell, c.in-Ok.ensures.never_falls);
      few = omega (arith, c.given-first.ensures.few, most_is);
      circuit = c.in-Ok.ensures.same_circuit ∙ kept.circuit;
      so_far = one_more kept.so_far c.windows-test.true c.in_ok-behind.behind c.in_ok-behind.vectors read.gives read.width c.count-turns.ensures.kept.one_width (g.F.Files.held c.read_window.new.files) read.same_held read.fits read.behind
          c.given-first.result c.count-turns.result c.given-first.ensures.value c.count-turns.ensures.value c.in-Ok.row (g.O.Sink.written c.simulate_from.new.out)
          (subst (λ (k : Circuit). AppendsLines k c.windows.first c.windows.state c.in_ok-behind.vectors.rows (g.O.Sink.written c.windows.out) (g.O.Sink.written c.simulate_from.new.out) c.in-Ok.row) kept.circuit c.in-Ok.ensures.ok);
    }

pub returns-in-Ok-end_line : goal.returns-in-Ok-end_line
returns-in-Ok-end_line g c =
    let kept = c.windows.invariant in
    record {
      value = rest_ends kept.so_far c.windows-test.false (trace_stage c.args.netlist.now) (RoseIn (g.F.Files.faults c.args.files.now) (g.F.Files.faults c.windows.files)) (end_line c.windows.state)
          (trace_is c.args.netlist.now c.windows.first c.windows.state) (g.O.Sink.written c.end_line.new.out) (g.O.Sink.faults c.args.out.now) (g.O.Sink.faults c.end_line.new.out)
          c.in-Ok-end_line.ensures.ok;
      same_held = kept.so_far.same;
      same_reads = kept.same_reads;
      same_writes = c.in-Ok-end_line.ensures.ok_same ∙ kept.same_writes;
    }

pub returns : goal.returns
returns g c =
    let kept = c.windows.invariant in
    record {
      value = rest_fails kept.so_far c.windows-test.false (trace_stage c.args.netlist.now) (RoseIn (g.F.Files.faults c.args.files.now) (g.F.Files.faults c.windows.files)) (end_line c.windows.state)
          (trace_is c.args.netlist.now c.windows.first c.windows.state) (g.O.Sink.written c.end_line.new.out) (g.O.Sink.faults c.args.out.now) (g.O.Sink.faults c.windows.out)
          (g.O.Sink.faults c.end_line.new.out) kept.never_fell c.in-Err-end_line.ensures.err c.in-Err-end_line.ensures.cause;
      same_held = kept.so_far.same;
      same_reads = kept.same_reads;
      same_writes = tt;
    }
