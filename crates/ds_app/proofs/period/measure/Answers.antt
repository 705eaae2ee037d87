use Rattle.std.proofs.Common.{ℕ, List, refl}
use Rattle.std.proofs.lemmas.Result.{err_from_is_err_and}
use Rattle.ds_outside.specs.Held.{Held}
use Rattle.ds_outside.specs.declared.files.Which.{Which}
use Rattle.ds_stage.specs.Stage.{OfFile}
use Rattle.ds_stage.specs.Ends.{Output, RoseIn, output_between}
use Rattle.ds_app.proofs.PeriodEnds.{ends_text, stops_delays}
use Rattle.ds_stage.proofs.FaultCounts.{unwritten_or, well_read}
use Rattle.ds_app.proofs.period.measure.Goals as goal

pub returns-in_err-delays-clause-value : goal.returns-in_err-delays-clause-value
returns-in_err-delays-clause-value g c =
    let held : List ℕ → Held = g.F.Files.held c.args.files.now in
    let now : Which → List ℕ → ℕ = g.F.Files.faults c.read_timing.new.files in
    let more : OfFile = RoseIn (g.F.Files.faults c.args.files.now) now in
    let out : Output = (output_between g.O.Sink.written g.O.Sink.faults c.args.out.now c.args.out.now) in
    let p = err_from_is_err_and c.from_residual.result c.from_residual.ensures.1 in
    rw (p.1, p.2) (stops_delays held c.args.delays.now more c.args.graph.now out c.in_err-delays.field-0.0 refl c.in_err-delays.ensures.value)

pub returns-clause-value : goal.returns-clause-value
returns-clause-value g c =
    let held : List ℕ → Held = g.F.Files.held c.args.files.now in
    let now : Which → List ℕ → ℕ = g.F.Files.faults c.read_timing.new.files in
    let more : OfFile = RoseIn (g.F.Files.faults c.args.files.now) now in
    let out : Output = (output_between g.O.Sink.written g.O.Sink.faults c.args.out.now c.write_period.new.out) in
    ends_text held c.args.delays.now more c.args.graph.now c.in_ok-delays.delays c.in_ok-delays.ensures.value out
    c.write_period.result c.write_period.ensures.value

pub returns-in_err-delays-clause-same_reads : goal.returns-in_err-delays-clause-same_reads
returns-in_err-delays-clause-same_reads g c = let p = err_from_is_err_and c.from_residual.result c.from_residual.ensures.1 in rw (p.1, p.2) (c.in_err-delays.ensures.same_reads)

pub returns-in_err-delays-clause-same_writes : goal.returns-in_err-delays-clause-same_writes
returns-in_err-delays-clause-same_writes g c = let p = err_from_is_err_and c.from_residual.result c.from_residual.ensures.1 in rw (p.1, p.2) (unwritten_or c.in_err-delays.field-0.0 refl)

pub returns-clause-same_reads : goal.returns-clause-same_reads
returns-clause-same_reads g c = well_read c.write_period.result c.in_ok-delays.ensures.same_reads

pub returns-clause-same_writes : goal.returns-clause-same_writes
returns-clause-same_writes g c = c.write_period.ensures.same_writes
