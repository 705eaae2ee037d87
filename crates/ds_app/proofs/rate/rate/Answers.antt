use Rattle.std.proofs.Common.{◌∙◌, ℕ, List, refl}
use Rattle.std.proofs.lemmas.Result.{err_from_is_err_and}
use Rattle.ds_outside.specs.Held.{Held}
use Rattle.ds_outside.specs.declared.files.Which.{Which}
use Rattle.ds_stage.specs.Stage.{OfFile}
use Rattle.ds_stage.specs.Ends.{Output, RoseIn, output_between}
use Rattle.ds_stage.proofs.FaultCounts.{unwritten_or}
use Rattle.ds_app.proofs.FaultCountsSince.{well_read_since}
use Rattle.ds_app.proofs.TimesEnds.{ends_rate, stops_rate}
use Rattle.ds_app.proofs.rate.rate.Goals as goal

pub returns-in_err-graph-clause-value : goal.returns-in_err-graph-clause-value
returns-in_err-graph-clause-value g c =
    let held : List ℕ → Held = g.F.Files.held c.args.files.now in
    let more : OfFile = RoseIn (g.F.Files.faults c.args.files.now) (g.F.Files.faults c.read_bare_graph.new.files) in
    let p = err_from_is_err_and c.from_residual.result c.from_residual.ensures.1 in
    let out : Output = output_between g.O.Sink.written g.O.Sink.faults c.args.out.now c.args.out.now in
    rw (p.1, p.2) (stops_rate held c.args.job.now _ _ c.as_str-name.ensures c.as_str-delays.ensures more out c.in_err-graph.field-0.0 refl c.in_err-graph.ensures.value)

pub measure-requires : goal.measure-requires
measure-requires g c = c.in_ok-graph.ensures.period

pub returns-clause-value : goal.returns-clause-value
returns-clause-value g c =
    let held : List ℕ → Held = g.F.Files.held c.args.files.now in
    let later : List ℕ → Held = g.F.Files.held c.read_bare_graph.new.files in
    let before : Which → List ℕ → ℕ = g.F.Files.faults c.args.files.now in
    let mid : Which → List ℕ → ℕ = g.F.Files.faults c.read_bare_graph.new.files in
    let now : Which → List ℕ → ℕ = g.F.Files.faults c.measure.new.files in
    let out : Output = output_between g.O.Sink.written g.O.Sink.faults c.args.out.now c.measure.new.out in
    ends_rate held c.args.job.now _ _ c.as_str-name.ensures c.as_str-delays.ensures later before mid now
    c.in_ok-graph.ensures.same_held c.in_ok-graph.ensures.never_falls c.in_ok-graph.graph c.in_ok-graph.ensures.value out c.measure.result c.measure.ensures.value

pub returns-in_err-graph-clause-same_reads : goal.returns-in_err-graph-clause-same_reads
returns-in_err-graph-clause-same_reads g c = let p = err_from_is_err_and c.from_residual.result c.from_residual.ensures.1 in rw (p.1, p.2) (c.in_err-graph.ensures.same_reads)

pub returns-in_err-graph-clause-same_writes : goal.returns-in_err-graph-clause-same_writes
returns-in_err-graph-clause-same_writes g c = let p = err_from_is_err_and c.from_residual.result c.from_residual.ensures.1 in rw (p.1, p.2) (unwritten_or c.in_err-graph.field-0.0 refl)

pub returns-clause-same_reads : goal.returns-clause-same_reads
returns-clause-same_reads g c = well_read_since _ c.measure.result c.in_ok-graph.ensures.same_reads c.measure.ensures.same_reads

pub returns-clause-same_writes : goal.returns-clause-same_writes
returns-clause-same_writes g c = c.measure.ensures.same_writes
