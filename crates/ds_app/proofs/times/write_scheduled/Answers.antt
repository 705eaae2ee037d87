use Rattle.std.proofs.Common.{◌≡◌, ℕ, List, length, Err, Ok, refl, subst, sym}
use Rattle.std.proofs.lemmas.Result.{err_from_is_err_and}
use Rattle.ds_marked.specs.Graph.{Graph}
use Rattle.ds_outside.specs.Held.{Held}
use Rattle.ds_outside.specs.declared.files.Which.{Which}
use Rattle.ds_stage.specs.Stage.{OfFile}
use Rattle.ds_stage.specs.PeriodStage.{delays_stage}
use Rattle.ds_stage.specs.TimesStage.{scheduled_stage}
use Rattle.ds_stage.specs.Ends.{Ends, Output, RoseIn, Stops, output_between}
use Rattle.ds_stage.proofs.FaultCounts.{unwritten_or, well_read}
use Rattle.ds_stage.proofs.TimesStages.{ends_schedule, stops_schedule}
use Rattle.ds_app.proofs.times.write_scheduled.Goals as goal

pub write_times-requires-clause-one_each : goal.write_times-requires-clause-one_each
write_times-requires-clause-one_each g c =
    subst (λ (h : Graph). length c.in_ok-delays.delays ≡ length h.arcs) c.graph.ensures.graph c.in_ok-delays.ensures.one_each

pub returns-in_err-delays-clause-value : goal.returns-in_err-delays-clause-value
returns-in_err-delays-clause-value g c =
    let held : List ℕ → Held = g.F.Files.held c.args.files.now in
    let more : OfFile = RoseIn (g.F.Files.faults c.args.files.now) (g.F.Files.faults c.read_timing.new.files) in
    let p = err_from_is_err_and c.from_residual.result c.from_residual.ensures.1 in
    let out : Output = output_between g.O.Sink.written g.O.Sink.faults c.args.out.now c.args.out.now in
    let is : Stops (delays_stage held c.as_str-name.result.now c.args.plan.now.graph) more c.in_err-delays.field-0.0 =
    subst (λ (h : Graph). Stops (delays_stage held c.as_str-name.result.now h) more c.in_err-delays.field-0.0) c.graph.ensures.graph c.in_err-delays.ensures.value in
    rw (p.1, p.2) (subst (λ (n : List ℕ). Ends {A = Unit {0}} (scheduled_stage held n c.args.job.now.turns c.args.plan.now.graph) more out (Err c.in_err-delays.field-0.0)) c.as_str-name.ensures
    (stops_schedule held c.as_str-name.result.now c.args.job.now.turns c.args.plan.now.graph more out c.in_err-delays.field-0.0 refl is))

pub returns-clause-value : goal.returns-clause-value
returns-clause-value g c =
    let held : List ℕ → Held = g.F.Files.held c.args.files.now in
    let more : OfFile = RoseIn (g.F.Files.faults c.args.files.now) (g.F.Files.faults c.read_timing.new.files) in
    let out : Output = output_between g.O.Sink.written g.O.Sink.faults c.args.out.now c.write_times.new.out in
    let are : (delays_stage held c.as_str-name.result.now c.args.plan.now.graph).means c.in_ok-delays.delays =
    subst (λ (h : Graph). (delays_stage held c.as_str-name.result.now h).means c.in_ok-delays.delays) c.graph.ensures.graph c.in_ok-delays.ensures.value in
    subst (λ (n : List ℕ). Ends (scheduled_stage held n c.args.job.now.turns c.args.plan.now.graph) more out c.write_times.result) c.as_str-name.ensures
    (ends_schedule held c.as_str-name.result.now c.args.job.now.turns c.args.plan.now.graph more c.in_ok-delays.delays are out c.write_times.result c.write_times.ensures.value)

pub returns-in_err-delays-clause-same_reads : goal.returns-in_err-delays-clause-same_reads
returns-in_err-delays-clause-same_reads g c = let p = err_from_is_err_and c.from_residual.result c.from_residual.ensures.1 in rw (p.1, p.2) (c.in_err-delays.ensures.same_reads)

pub returns-in_err-delays-clause-same_writes : goal.returns-in_err-delays-clause-same_writes
returns-in_err-delays-clause-same_writes g c = let p = err_from_is_err_and c.from_residual.result c.from_residual.ensures.1 in rw (p.1, p.2) (unwritten_or c.in_err-delays.field-0.0 refl)

pub returns-clause-same_reads : goal.returns-clause-same_reads
returns-clause-same_reads g c = well_read c.write_times.result c.in_ok-delays.ensures.same_reads

pub returns-clause-same_writes : goal.returns-clause-same_writes
returns-clause-same_writes g c = c.write_times.ensures.same_writes
