use Rattle.std.proofs.Common.{◌≡◌, ◌∙◌, ◌+◌, ℕ, Bool, List, [], Ok, Err, length, ap, arith, refl, subst, sym}
use Rattle.std.proofs.lemmas.Result.{err_from_is_err_and}
use Rattle.ds_outside.specs.Held.{Held}
use Rattle.ds_design.specs.Circuit.{Circuit, columns, initial_row}
use Rattle.ds_design.specs.InRange.{IsInRange}
use Rattle.ds_latch.specs.Node.{Split}
use Rattle.ds_latch.specs.Plan.{Planned}
use Rattle.ds_marked.specs.Graph.{Graph}
use Rattle.ds_clocked.specs.Appends.{AppendsLines, AppendsLinesPart}
use Rattle.ds_run.specs.Logged.{IsLogOf, LogGrows}
use Rattle.ds_run.specs.Openings.{HasConeGroups}
use Rattle.ds_run.proofs.WindowGroups.{groups_begun}
use Rattle.ds_run.proofs.WindowTexts.{logs_go_on}
use Rattle.ds_stage.specs.declared.stop.Stop.TheVariants.{Unwritten}
use Rattle.ds_stage.specs.Ends.{RoseIn, output_between}
use Rattle.ds_stage.specs.Stage.{OfFile}
use Rattle.ds_stage.specs.StreamStage.{most_vectors}
use Rattle.ds_stage.proofs.FaultCounts.{unread_or, unwritten_or}
use Rattle.ds_stage.proofs.Streamed.{memory_stops, none_written, of_none}
use Rattle.ds_app.specs.RunStage.{traced_stage}
use Rattle.ds_app.proofs.FaultCountsSince.{unread_since}
use Rattle.ds_app.proofs.RunEnds.{ends_of_file, run_is, run_spells}
use Rattle.ds_app.proofs.WindowEnds.{no_more, none_so_far, one_more, rest_ends, rest_fails, same_written, window_ends}
use Rattle.ds_app.proofs.run.write_traced.Goals as goal

pub windows-init : goal.windows-init
windows-init g c =
    let is = c.reader_for-reader.ensures in
    record {
      same_reads = refl;
      same_writes = refl;
      never_falls = λ w n. omega arith;
      never_fell = omega arith;
      circuit = refl;
      graph = refl;
      cones = c.in_ok-log.ensures.cones;
      few = omega arith;
      logged = c.in_ok-log.ensures.log;
      so_far = none_so_far (g.F.Files.held c.args.files.now) c.as_str-vec.result.now c.args.plan.now.split.circuit (most_vectors c.args.job.now.log) c.reader_for-reader.result
          c.args.plan.now.split.initial (g.O.Sink.written c.args.out.now) (record { width = is.width; most_is = is.most }) is.given (is.fits (g.F.Files.held c.args.files.now c.as_str-vec.result.now)) c.requires.start;
    }

pub returns-in_err-log : goal.returns-in_err-log
returns-in_err-log g c =
    let held : List ℕ → Held = g.F.Files.held c.args.files.now in
    let p : Planned = c.args.plan.now in
    let log : Bool = c.args.job.now.log in
    let q = err_from_is_err_and c.from_residual.result c.from_residual.ensures.1 in
    rw (q.1, q.2) (record {
      value = memory_stops (Unit {0}) held c.args.job.now.vec p.split.circuit (most_vectors log) (traced_stage log p.split.circuit p) (RoseIn (g.F.Files.faults c.args.files.now) (g.F.Files.faults c.args.files.now))
          (output_between g.O.Sink.written g.O.Sink.faults c.args.out.now c.args.out.now) 0 [] (initial_row p.split.circuit) (of_none (held c.args.job.now.vec) p.split.circuit (most_vectors log))
          (none_written p.split.circuit (g.O.Sink.written c.args.out.now));
      same_held = refl;
      same_reads = tt;
      same_writes = refl;
    })

pub returns-in_err-behind : goal.returns-in_err-behind
returns-in_err-behind g c =
    let p : Planned = c.args.plan.now in
    let log : Bool = c.args.job.now.log in
    let kept = c.windows.invariant in
    let is = c.in_err-behind.ensures in
    let q = err_from_is_err_and c.from_residual-in_err-behind.result c.from_residual-in_err-behind.ensures.1 in
    rw (q.1, q.2) (record {
      value = ends_of_file (g.F.Files.held c.args.files.now) c.as_str-vec.result.now c.args.job.now.vec log p (RoseIn (g.F.Files.faults c.args.files.now) (g.F.Files.faults c.read_window.new.files))
          (output_between g.O.Sink.written g.O.Sink.faults c.args.out.now c.windows.out) (Err c.in_err-behind.field-0.0) c.as_str-vec.ensures
          (no_more kept.so_far c.windows-test.true (traced_stage log p.split.circuit p) (g.F.Files.faults c.args.files.now) (g.F.Files.faults c.windows.files) (g.F.Files.faults c.read_window.new.files)
          kept.never_falls (g.O.Sink.faults c.args.out.now) (g.O.Sink.faults c.windows.out) c.in_err-behind.field-0.0 is.gives);
      same_held = is.same_held ∙ kept.so_far.same;
      same_reads = unread_since _ c.in_err-behind.field-0.0 kept.same_reads is.same_reads;
      same_writes = unwritten_or c.in_err-behind.field-0.0 kept.same_writes;
    })

pub write_window-requires-clause-width : goal.write_window-requires-clause-width
write_window-requires-clause-width g c _ _ =
    subst (λ (k : Circuit). c.in_ok-behind.vectors.width ≡ length (columns k)) (sym c.windows.invariant.circuit)
    (c.in_ok-behind.ensures.width ∙ c.windows.invariant.so_far.of.width)

pub returns-in-Err : goal.returns-in-Err
returns-in-Err g c =
    let p : Planned = c.args.plan.now in
    let log : Bool = c.args.job.now.log in
    let kept = c.windows.invariant in
    let read = c.in_ok-behind.ensures in
    let is = c.in-Err.ensures in
    let plan = c.graph-graph.ensures.accepted in
    let failed : OfFile = RoseIn (g.F.Files.faults c.args.files.now) (g.F.Files.faults c.read_window.new.files) in
    record {
      value = ends_of_file (g.F.Files.held c.args.files.now) c.as_str-vec.result.now c.args.job.now.vec log p failed (output_between g.O.Sink.written g.O.Sink.faults c.args.out.now c.write_window.new.out)
          (Err c.stop_of.result) c.as_str-vec.ensures
          (window_ends kept.so_far c.windows-test.true c.in_ok-behind.behind c.in_ok-behind.vectors read.gives read.width c.count-turns.ensures.kept.one_width
          (subst IsInRange (c.netlist.ensures.netlist ∙ ap (λ (t : Split). t.circuit) c.latches.ensures) c.design-design.ensures.in_range) plan.split.accepted
          (traced_stage log p.split.circuit p) (run_spells p plan.live log) failed (g.O.Sink.written c.write_window.new.out)
          (g.O.Sink.faults c.args.out.now) (g.O.Sink.faults c.windows.out) (g.O.Sink.faults c.write_window.new.out) kept.never_fell c.in-Err.fault c.stop_of.result c.stop_of.ensures
          (λ e. subst (λ (k : Circuit). AppendsLinesPart k c.windows.first c.windows.plan.split.initial c.in_ok-behind.vectors.rows (g.O.Sink.written c.windows.out) (g.O.Sink.written c.write_window.new.out)) kept.circuit (is.part (ap Err e)))
          (λ e. is.cause (ap Err e)) (λ e. is.same (ap Err e)));
      same_held = read.same_held ∙ kept.so_far.same;
      same_reads = unread_or c.stop_of.result (read.same_reads ∙ kept.same_reads);
      same_writes = same_written c.in-Err.fault c.stop_of.result c.stop_of.ensures (λ e. is.same_faults (λ failed. cc) ∙ kept.same_writes);
    }

pub windows-preserved : goal.windows-preserved
windows-preserved g c =
    let p : Planned = c.args.plan.now in
    let log : Bool = c.args.job.now.log in
    let kept = c.windows.invariant in
    let read = c.in_ok-behind.ensures in
    let next = c.in_ok-behind.vectors.rows in
    let most_is = read.behind.most ∙ kept.so_far.of.most_is in
    let first_is : c.given-first.result ≡ c.windows.first + length next =
    c.given-first.ensures.value ∙ (read.behind.given ∙ ap (λ (n : ℕ). n + length next) (sym kept.so_far.first_is)) in
    let begun_is = c.begin.ensures in
    record {
      same_reads = read.same_reads ∙ kept.same_reads;
      same_writes = c.in-Ok.ensures.same_faults (λ failed. cc) ∙ kept.same_writes;
      never_falls = λ w n. omega (arith, kept.never_falls w n, read.never_falls w n);
      never_fell = omega (arith, kept.never_fell, c.in-Ok.ensures.never_falls);
      circuit = ap (λ (q : Planned). q.split.circuit) begun_is ∙ kept.circuit;
      graph = ap (λ (q : Planned). q.graph) begun_is ∙ kept.graph;
      cones = subst (λ (q : Planned). HasConeGroups q.split c.in_ok-log.cones.groups) (sym begun_is)
          (groups_begun c.windows.plan.split c.in-Ok.row c.in_ok-log.cones.groups kept.cones);
      few = omega (arith, c.given-first.ensures.few, most_is);
      logged = subst (λ (n : ℕ). IsLogOf log p.graph n c.write_window.new.log) (sym first_is)
          (logs_go_on p.graph c.graph-graph.ensures.accepted.live log c.windows.first (length next) c.windows.log c.write_window.new.log kept.logged
          (subst (λ (k : Graph). LogGrows k (length next) c.windows.log c.write_window.new.log) kept.graph c.in-Ok.ensures.ok_log));
      so_far = one_more kept.so_far c.windows-test.true c.in_ok-behind.behind c.in_ok-behind.vectors read.gives read.width c.count-turns.ensures.kept.one_width (g.F.Files.held c.read_window.new.files) read.same_held read.fits read.behind
          c.given-first.result c.count-turns.result c.given-first.ensures.value c.count-turns.ensures.value c.begin.new.self.split.initial (g.O.Sink.written c.write_window.new.out)
          (subst (λ (q : Planned). AppendsLines p.split.circuit c.windows.first c.windows.plan.split.initial next (g.O.Sink.written c.windows.out) (g.O.Sink.written c.write_window.new.out) q.split.initial) (sym begun_is)
          (subst (λ (k : Circuit). AppendsLines k c.windows.first c.windows.plan.split.initial next (g.O.Sink.written c.windows.out) (g.O.Sink.written c.write_window.new.out) c.in-Ok.row) kept.circuit c.in-Ok.ensures.ok));
    }

pub returns-in-Ok-end_traced : goal.returns-in-Ok-end_traced
returns-in-Ok-end_traced g c =
    let p : Planned = c.args.plan.now in
    let log : Bool = c.args.job.now.log in
    let kept = c.windows.invariant in
    let (text, end, writes) = c.in-Ok-end_traced.ensures in
    let failed : OfFile = RoseIn (g.F.Files.faults c.args.files.now) (g.F.Files.faults c.windows.files) in
    record {
      value = ends_of_file (g.F.Files.held c.args.files.now) c.as_str-vec.result.now c.args.job.now.vec log p failed (output_between g.O.Sink.written g.O.Sink.faults c.args.out.now c.end_traced.new.out)
          (Ok tt) c.as_str-vec.ensures
          (rest_ends kept.so_far c.windows-test.false (traced_stage log p.split.circuit p) failed text
          (run_is p log c.windows.plan.graph c.windows.first c.windows.plan.split.initial c.windows.log text kept.graph kept.logged end) (g.O.Sink.written c.end_traced.new.out)
          (g.O.Sink.faults c.args.out.now) (g.O.Sink.faults c.end_traced.new.out) writes.ok);
      same_held = kept.so_far.same;
      same_reads = kept.same_reads;
      same_writes = writes.ok_same ∙ kept.same_writes;
    }

pub returns : goal.returns
returns g c =
    let p : Planned = c.args.plan.now in
    let log : Bool = c.args.job.now.log in
    let kept = c.windows.invariant in
    let (text, end, writes) = c.in-Err-end_traced.ensures in
    let failed : OfFile = RoseIn (g.F.Files.faults c.args.files.now) (g.F.Files.faults c.windows.files) in
    record {
      value = ends_of_file (g.F.Files.held c.args.files.now) c.as_str-vec.result.now c.args.job.now.vec log p failed (output_between g.O.Sink.written g.O.Sink.faults c.args.out.now c.end_traced.new.out)
          (Err Unwritten) c.as_str-vec.ensures
          (rest_fails kept.so_far c.windows-test.false (traced_stage log p.split.circuit p) failed text
          (run_is p log c.windows.plan.graph c.windows.first c.windows.plan.split.initial c.windows.log text kept.graph kept.logged end) (g.O.Sink.written c.end_traced.new.out)
          (g.O.Sink.faults c.args.out.now) (g.O.Sink.faults c.windows.out) (g.O.Sink.faults c.end_traced.new.out) kept.never_fell writes.err writes.cause);
      same_held = kept.so_far.same;
      same_reads = kept.same_reads;
      same_writes = tt;
    }

pub end_traced-requires : goal.end_traced-requires
end_traced-requires g c =
    record { log = (c.args.job.now.log, c.windows.first, subst (λ (k : Graph). IsLogOf c.args.job.now.log k c.windows.first c.windows.log) (sym c.windows.invariant.graph) c.windows.invariant.logged) }
