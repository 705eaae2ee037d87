use Rattle.std.proofs.Common.{◌≡◌, ℕ, List, Err, ap, refl, subst, ◌∙◌}
use Rattle.std.proofs.lemmas.Result.{err_from_is_err_and}
use Rattle.ds_outside.specs.Held.{Held}
use Rattle.ds_design.specs.Circuit.{Circuit}
use Rattle.ds_design.specs.Rows.{Rows}
use Rattle.ds_latch.specs.Node.{Split}
use Rattle.ds_latch.specs.Plan.{Planned}
use Rattle.ds_run.specs.Stopped.{IsStoppedText}
use Rattle.ds_stage.specs.Stage.{OfFile}
use Rattle.ds_stage.specs.Stages.{vectors_stage}
use Rattle.ds_stage.specs.declared.stop.Stop.{Stop}
use Rattle.ds_stage.specs.Ends.{Ends, Output, RoseIn, Stops, output_between}
use Rattle.ds_stage.proofs.StageEnds.{ended_first, ends_after, gives_more}
use Rattle.ds_stage.proofs.StagesLeaveNothing.{vectors_nothing}
use Rattle.ds_app.specs.RunStage.{stopped_run_stage, stopped_stage}
use Rattle.ds_stage.proofs.FaultCounts.{unwritten_or, well_read}
use Rattle.ds_app.proofs.stopped.write_at_stop.Goals as goal

pub returns-in_err-vectors-clause-value : goal.returns-in_err-vectors-clause-value
returns-in_err-vectors-clause-value g c =
    let held : List ℕ → Held = g.F.Files.held c.args.files.now in
    let vec : List ℕ = c.as_str-vec.result.now in
    let planned : Planned = c.args.planned.now.plan.now in
    let circuit : Circuit = planned.split.circuit in
    let more : OfFile = RoseIn (g.F.Files.faults c.args.files.now) (g.F.Files.faults c.read_rows.new.files) in
    let out : Output = (output_between g.O.Sink.written g.O.Sink.faults c.args.out.now c.args.out.now) in
    let same : c.netlist.result.now ≡ circuit = c.netlist.ensures.netlist ∙ ap (λ (t : Split). t.circuit) c.latches.ensures in
    let stop : Stop = c.in_err-vectors.field-0.0 in
    let stops : Stops (vectors_stage held vec circuit) more stop =
    subst (λ (k : Circuit). Stops (vectors_stage held vec k) more stop) same c.in_err-vectors.ensures.value in
    let p = err_from_is_err_and c.from_residual.result c.from_residual.ensures.1 in
    rw (p.1, p.2) (subst (λ (file : List ℕ). Ends {A = Unit {0}} (stopped_run_stage held file c.args.job.now.log c.args.workers.now.jobs c.args.planned.now.stop circuit planned) more out (Err stop)) c.as_str-vec.ensures
    (ended_first (Unit {0}) (vectors_stage held vec circuit) (stopped_stage c.args.job.now.log c.args.workers.now.jobs c.args.planned.now.stop circuit planned) more out
    stop (vectors_nothing held vec circuit) refl stops))

pub returns-clause-value : goal.returns-clause-value
returns-clause-value g c =
    let held : List ℕ → Held = g.F.Files.held c.args.files.now in
    let vec : List ℕ = c.as_str-vec.result.now in
    let planned : Planned = c.args.planned.now.plan.now in
    let circuit : Circuit = planned.split.circuit in
    let stop : ℕ = c.args.planned.now.stop in
    let jobs : ℕ = c.args.workers.now.jobs in
    let rows : Rows = c.in_ok-vectors.vectors in
    let same : c.netlist.result.now ≡ circuit = c.netlist.ensures.netlist ∙ ap (λ (t : Split). t.circuit) c.latches.ensures in
    let given : (vectors_stage held vec circuit).means rows =
    subst (λ (k : Circuit). (vectors_stage held vec k).means rows) same c.in_ok-vectors.ensures.value in
    let more : OfFile = RoseIn (g.F.Files.faults c.args.files.now) (g.F.Files.faults c.read_rows.new.files) in
    let out : Output = (output_between g.O.Sink.written g.O.Sink.faults c.args.out.now c.write_halted.new.out) in
    let last : Ends {A = Unit {0}} (stopped_stage c.args.job.now.log jobs stop circuit planned rows) more out c.write_halted.result =
    gives_more (IsStoppedText c.args.job.now.log stop jobs planned rows.rows) (λ text. (circuit ≡ circuit) × IsStoppedText c.args.job.now.log stop jobs planned rows.rows text) more out (λ text is. (refl, is)) c.write_halted.result c.write_halted.ensures.value in
    subst (λ (file : List ℕ). Ends {A = Unit {0}} (stopped_run_stage held file c.args.job.now.log jobs stop circuit planned) more out c.write_halted.result) c.as_str-vec.ensures
    (ends_after (vectors_stage held vec circuit) (stopped_stage c.args.job.now.log jobs stop circuit planned) more out rows given c.write_halted.result last)

pub returns-in_err-vectors-clause-same_reads : goal.returns-in_err-vectors-clause-same_reads
returns-in_err-vectors-clause-same_reads g c = let p = err_from_is_err_and c.from_residual.result c.from_residual.ensures.1 in rw (p.1, p.2) (c.in_err-vectors.ensures.same_reads)

pub returns-in_err-vectors-clause-same_writes : goal.returns-in_err-vectors-clause-same_writes
returns-in_err-vectors-clause-same_writes g c = let p = err_from_is_err_and c.from_residual.result c.from_residual.ensures.1 in rw (p.1, p.2) (unwritten_or c.in_err-vectors.field-0.0 refl)

pub returns-clause-same_reads : goal.returns-clause-same_reads
returns-clause-same_reads g c = well_read c.write_halted.result c.in_ok-vectors.ensures.same_reads

pub returns-clause-same_writes : goal.returns-clause-same_writes
returns-clause-same_writes g c = c.write_halted.ensures.same_writes
