use Rattle.std.proofs.Common.{ℕ, List, map, refl}
use Rattle.std.specs.Borrow.{Bor}
use Rattle.ds_stage.specs.Ends.{output_between}
use Rattle.ds_app.specs.Status.{Call}
use Rattle.ds_app.proofs.OneStatus.{answered_end, answered_words, no_fault}
use Rattle.ds_app.proofs.Interleaved.{interleavings_lem}
use Rattle.ds_app.proofs.app.desync_main.Goals as goal

pub returns-in-Ok : goal.returns-in-Ok
returns-in-Ok g c =
    let call : Call = record {
      words = map (λ (w : Bor (List ℕ)). w.now) c.args.words.now;
      held = g.F.Files.held c.args.files.now;
      before = g.F.Files.faults c.args.files.now;
      now = g.F.Files.faults c.do_job-ended.new.files;
      out = output_between g.O.Sink.written g.O.Sink.faults c.args.out.now c.do_job-ended.new.out;
      err = output_between g.E.Sink.written g.E.Sink.faults c.args.err.now c.say_end.new.err;
    } in
    let is = c.in-Ok.ensures.value in
    let answered = answered_end call c.in-Ok.job c.do_job-ended.result c.say_end.result is c.do_job-ended.ensures.value c.do_job-ended.ensures.same_reads c.do_job-ended.ensures.same_writes c.say_end.ensures in
    record {
      answered = answered;
      nothing_read = λ two. let ((fault, faulty), reported) = answered.no_line two in absurd (no_fault call.words c.in-Ok.job fault is faulty);
      same_held = c.do_job-ended.ensures.same_held;
      interleavings = interleavings_lem (g.F.Files.held c.args.files.now) (map (λ (w : Bor (List ℕ)). w.now) c.args.words.now);
    }

pub returns-in-Err : goal.returns-in-Err
returns-in-Err g c =
    let call : Call = record {
      words = map (λ (w : Bor (List ℕ)). w.now) c.args.words.now;
      held = g.F.Files.held c.args.files.now;
      before = g.F.Files.faults c.args.files.now;
      now = g.F.Files.faults c.args.files.now;
      out = output_between g.O.Sink.written g.O.Sink.faults c.args.out.now c.args.out.now;
      err = output_between g.E.Sink.written g.E.Sink.faults c.args.err.now c.say_usage.new.err;
    } in
    record {
      answered = answered_words call c.in-Err.fault c.say_usage.result c.in-Err.ensures.value refl refl refl c.say_usage.ensures;
      nothing_read = λ two. refl;
      same_held = refl;
      interleavings = interleavings_lem (g.F.Files.held c.args.files.now) (map (λ (w : Bor (List ℕ)). w.now) c.args.words.now);
    }

pub do_job-ended-requires-after_bounds : goal.do_job-ended-requires-after_bounds
do_job-ended-requires-after_bounds g c _ _ = c.in-Ok.ensures.numbers
