use Rattle.std.proofs.Common.{◌≡◌, Err, length, refl, subst, ap, sym, ◌∙◌}
use Rattle.std.proofs.lemmas.Result.{err_from_is_err_and}
use Rattle.ds_design.specs.Circuit.{Circuit, columns}
use Rattle.ds_latch.specs.Node.{Split}
use Rattle.ds_latch.specs.Plan.{Planned}
use Rattle.ds_cmd.specs.declared.replay.ReplayJob.{ReplayJob}
use Rattle.ds_stage.specs.Ends.{Output, RoseIn, output_between}
use Rattle.ds_stage.proofs.PlanAccepted.{planned_circuit, planned_in_clusters}
use Rattle.ds_app.proofs.LentNames.{replay_ends}
use Rattle.ds_app.proofs.PlannedEnds.{stops_netlist, stops_plan}
use Rattle.ds_app.proofs.ReplayEnds.{ends_log, logged_job, stops_log, stops_vectors}
use Rattle.ds_stage.proofs.FaultCounts.{unwritten_or, well_read}
use Rattle.ds_app.proofs.FaultCountsSince.{unread_since}
use Rattle.ds_app.proofs.replay.replay.Goals as goal

pub returns-in_err-netlist-clause-value : goal.returns-in_err-netlist-clause-value
returns-in_err-netlist-clause-value g c =
    let job : ReplayJob = record c.args.job.now { net = c.as_str-net.result.now; vec = c.as_str-vec.result.now; log = c.as_str-log.result.now } in
    let p = err_from_is_err_and c.from_residual.result c.from_residual.ensures.1 in
    let out : Output = output_between g.O.Sink.written g.O.Sink.faults c.args.out.now c.args.out.now in
    rw (p.1, p.2) (replay_ends (g.F.Files.held c.args.files.now) (RoseIn (g.F.Files.faults c.args.files.now) (g.F.Files.faults c.read_netlist.new.files)) out (Err c.in_err-netlist.field-0.0) c.args.job.now _ _ _ c.as_str-net.ensures c.as_str-vec.ensures c.as_str-log.ensures
    (stops_netlist g.F.Files.held g.F.Files.faults c.args.files.now job.net job.graph job.groups job.clusters job.slack
    (logged_job (g.F.Files.held c.args.files.now) job.vec job.log job.transparent)
    c.read_netlist.new.files out c.in_err-netlist.field-0.0 refl c.in_err-netlist.ensures.value))

pub returns-in_err-plan-clause-value : goal.returns-in_err-plan-clause-value
returns-in_err-plan-clause-value g c =
    let job : ReplayJob = record c.args.job.now { net = c.as_str-net.result.now; vec = c.as_str-vec.result.now; log = c.as_str-log.result.now } in
    let p = err_from_is_err_and c.from_residual-in_err-plan.result c.from_residual-in_err-plan.ensures.1 in
    let out : Output = output_between g.O.Sink.written g.O.Sink.faults c.args.out.now c.args.out.now in
    rw (p.1, p.2) (replay_ends (g.F.Files.held c.args.files.now) (RoseIn (g.F.Files.faults c.args.files.now) (g.F.Files.faults c.plan_netlist.new.files)) out (Err c.in_err-plan.field-0.0) c.args.job.now _ _ _ c.as_str-net.ensures c.as_str-vec.ensures c.as_str-log.ensures
    (stops_plan g.F.Files.held g.F.Files.faults c.args.files.now job.net job.graph job.groups job.clusters job.slack
    (logged_job (g.F.Files.held c.args.files.now) job.vec job.log job.transparent)
    c.read_netlist.new.files (record { same_held = c.in_ok-netlist.ensures.same_held; never_falls = c.in_ok-netlist.ensures.never_falls }) c.in_ok-netlist.netlist c.in_ok-netlist.ensures.value
    c.plan_netlist.new.files out c.in_err-plan.field-0.0 refl c.in_err-plan.ensures.value))

pub returns-in_err-vectors-clause-value : goal.returns-in_err-vectors-clause-value
returns-in_err-vectors-clause-value g c =
    let job : ReplayJob = record c.args.job.now { net = c.as_str-net.result.now; vec = c.as_str-vec.result.now; log = c.as_str-log.result.now } in
    let p = err_from_is_err_and c.from_residual-in_err-vectors.result c.from_residual-in_err-vectors.ensures.1 in
    let out : Output = output_between g.O.Sink.written g.O.Sink.faults c.args.out.now c.args.out.now in
    rw (p.1, p.2) (replay_ends (g.F.Files.held c.args.files.now) (RoseIn (g.F.Files.faults c.args.files.now) (g.F.Files.faults c.read_rows.new.files)) out (Err c.in_err-vectors.field-0.0) c.args.job.now _ _ _ c.as_str-net.ensures c.as_str-vec.ensures c.as_str-log.ensures
    (stops_vectors g.F.Files.held g.F.Files.faults c.args.files.now job
    c.read_netlist.new.files (record { same_held = c.in_ok-netlist.ensures.same_held; never_falls = c.in_ok-netlist.ensures.never_falls }) c.in_ok-netlist.netlist c.in_ok-netlist.ensures.value
    c.plan_netlist.new.files (record { same_held = c.in_ok-plan.ensures.same_held; never_falls = c.in_ok-plan.ensures.never_falls }) c.in_ok-plan.plan c.in_ok-plan.ensures.value
    c.read_rows.new.files out c.in_err-vectors.field-0.0 refl c.in_err-vectors.ensures.value))

pub read_log-requires : goal.read_log-requires
read_log-requires g c =
    let same : c.in_ok-plan.plan.split.circuit ≡ c.in_ok-netlist.netlist =
    planned_circuit (g.F.Files.held c.read_netlist.new.files) c.as_str-net.result.now c.args.job.now.graph c.args.job.now.groups c.args.job.now.clusters c.args.job.now.slack c.in_ok-netlist.netlist c.in_ok-plan.plan c.in_ok-plan.ensures.value in
    subst (λ (k : Circuit). c.in_ok-vectors.vectors.width ≡ length (columns k)) (sym same) c.in_ok-vectors.ensures.width

pub returns-in_err-state-clause-value : goal.returns-in_err-state-clause-value
returns-in_err-state-clause-value g c =
    let job : ReplayJob = record c.args.job.now { net = c.as_str-net.result.now; vec = c.as_str-vec.result.now; log = c.as_str-log.result.now } in
    let p = err_from_is_err_and c.from_residual-in_err-state.result c.from_residual-in_err-state.ensures.1 in
    let out : Output = output_between g.O.Sink.written g.O.Sink.faults c.args.out.now c.args.out.now in
    rw (p.1, p.2) (replay_ends (g.F.Files.held c.args.files.now) (RoseIn (g.F.Files.faults c.args.files.now) (g.F.Files.faults c.read_log.new.files)) out (Err c.in_err-state.field-0.0) c.args.job.now _ _ _ c.as_str-net.ensures c.as_str-vec.ensures c.as_str-log.ensures
    (stops_log g.F.Files.held g.F.Files.faults c.args.files.now job
    c.read_netlist.new.files (record { same_held = c.in_ok-netlist.ensures.same_held; never_falls = c.in_ok-netlist.ensures.never_falls }) c.in_ok-netlist.netlist c.in_ok-netlist.ensures.value
    c.plan_netlist.new.files (record { same_held = c.in_ok-plan.ensures.same_held; never_falls = c.in_ok-plan.ensures.never_falls }) c.in_ok-plan.plan c.in_ok-plan.ensures.value
    c.read_rows.new.files (record { same_held = c.in_ok-vectors.ensures.same_held; never_falls = c.in_ok-vectors.ensures.never_falls }) c.in_ok-vectors.vectors c.in_ok-vectors.ensures.value
    c.read_log.new.files out c.in_err-state.field-0.0 refl c.in_err-state.ensures.value))

pub write_state-requires-clause-plan : goal.write_state-requires-clause-plan
write_state-requires-clause-plan g c =
    let (events, fired, after) = c.in_ok-state.ensures.value in
    after.state.planned_is

pub write_state-requires-clause-vectors : goal.write_state-requires-clause-vectors
write_state-requires-clause-vectors g c =
    let (events, fired, after) = c.in_ok-state.ensures.value in
    after.state.vectors_are

pub write_state-requires-clause-slack : goal.write_state-requires-clause-slack
write_state-requires-clause-slack g c wanted =
    let (s, is, same) = planned_in_clusters (g.F.Files.held c.read_netlist.new.files) c.as_str-net.result.now c.args.job.now.graph c.args.job.now.groups c.args.job.now.clusters c.args.job.now.slack c.in_ok-netlist.netlist c.in_ok-plan.plan c.in_ok-plan.ensures.value in
    let (events, fired, after) = c.in_ok-state.ensures.value in
    ap (λ (p : Planned). p.split.slack) after.state.planned_is ∙ (ap (λ (t : Split). t.slack) same ∙ c.requires.shown wanted)

pub returns-clause-value : goal.returns-clause-value
returns-clause-value g c =
    let job : ReplayJob = record c.args.job.now { net = c.as_str-net.result.now; vec = c.as_str-vec.result.now; log = c.as_str-log.result.now } in
    let out : Output = output_between g.O.Sink.written g.O.Sink.faults c.args.out.now c.write_state.new.out in
    replay_ends (g.F.Files.held c.args.files.now) (RoseIn (g.F.Files.faults c.args.files.now) (g.F.Files.faults c.read_log.new.files)) out c.write_state.result c.args.job.now _ _ _ c.as_str-net.ensures c.as_str-vec.ensures c.as_str-log.ensures
    (ends_log g.F.Files.held g.F.Files.faults c.args.files.now job
    c.read_netlist.new.files (record { same_held = c.in_ok-netlist.ensures.same_held; never_falls = c.in_ok-netlist.ensures.never_falls }) c.in_ok-netlist.netlist c.in_ok-netlist.ensures.value
    c.plan_netlist.new.files (record { same_held = c.in_ok-plan.ensures.same_held; never_falls = c.in_ok-plan.ensures.never_falls }) c.in_ok-plan.plan c.in_ok-plan.ensures.value
    c.read_rows.new.files (record { same_held = c.in_ok-vectors.ensures.same_held; never_falls = c.in_ok-vectors.ensures.never_falls }) c.in_ok-vectors.vectors c.in_ok-vectors.ensures.value
    c.in_ok-state.state c.in_ok-state.fired c.in_ok-state.ensures.value
    c.read_log.new.files out c.write_state.result c.write_state.ensures.value)

pub returns-in_err-netlist-clause-same_reads : goal.returns-in_err-netlist-clause-same_reads
returns-in_err-netlist-clause-same_reads g c = let p = err_from_is_err_and c.from_residual.result c.from_residual.ensures.1 in rw (p.1, p.2) (c.in_err-netlist.ensures.same_reads)

pub returns-in_err-plan-clause-same_reads : goal.returns-in_err-plan-clause-same_reads
returns-in_err-plan-clause-same_reads g c = let p = err_from_is_err_and c.from_residual-in_err-plan.result c.from_residual-in_err-plan.ensures.1 in rw (p.1, p.2) (unread_since _ c.in_err-plan.field-0.0 c.in_ok-netlist.ensures.same_reads c.in_err-plan.ensures.same_reads)

pub returns-in_err-vectors-clause-same_reads : goal.returns-in_err-vectors-clause-same_reads
returns-in_err-vectors-clause-same_reads g c = let p = err_from_is_err_and c.from_residual-in_err-vectors.result c.from_residual-in_err-vectors.ensures.1 in rw (p.1, p.2) (unread_since _ c.in_err-vectors.field-0.0 (c.in_ok-plan.ensures.same_reads ∙ c.in_ok-netlist.ensures.same_reads) c.in_err-vectors.ensures.same_reads)

pub returns-in_err-state-clause-same_reads : goal.returns-in_err-state-clause-same_reads
returns-in_err-state-clause-same_reads g c = let p = err_from_is_err_and c.from_residual-in_err-state.result c.from_residual-in_err-state.ensures.1 in rw (p.1, p.2) (unread_since _ c.in_err-state.field-0.0 (c.in_ok-vectors.ensures.same_reads ∙ (c.in_ok-plan.ensures.same_reads ∙ c.in_ok-netlist.ensures.same_reads)) c.in_err-state.ensures.same_reads)

pub returns-clause-same_reads : goal.returns-clause-same_reads
returns-clause-same_reads g c = well_read c.write_state.result (c.in_ok-state.ensures.same_reads ∙ (c.in_ok-vectors.ensures.same_reads ∙ (c.in_ok-plan.ensures.same_reads ∙ c.in_ok-netlist.ensures.same_reads)))

pub returns-in_err-netlist-clause-same_writes : goal.returns-in_err-netlist-clause-same_writes
returns-in_err-netlist-clause-same_writes g c = let p = err_from_is_err_and c.from_residual.result c.from_residual.ensures.1 in rw (p.1, p.2) (unwritten_or c.in_err-netlist.field-0.0 refl)

pub returns-in_err-plan-clause-same_writes : goal.returns-in_err-plan-clause-same_writes
returns-in_err-plan-clause-same_writes g c = let p = err_from_is_err_and c.from_residual-in_err-plan.result c.from_residual-in_err-plan.ensures.1 in rw (p.1, p.2) (unwritten_or c.in_err-plan.field-0.0 refl)

pub returns-in_err-vectors-clause-same_writes : goal.returns-in_err-vectors-clause-same_writes
returns-in_err-vectors-clause-same_writes g c = let p = err_from_is_err_and c.from_residual-in_err-vectors.result c.from_residual-in_err-vectors.ensures.1 in rw (p.1, p.2) (unwritten_or c.in_err-vectors.field-0.0 refl)

pub returns-in_err-state-clause-same_writes : goal.returns-in_err-state-clause-same_writes
returns-in_err-state-clause-same_writes g c = let p = err_from_is_err_and c.from_residual-in_err-state.result c.from_residual-in_err-state.ensures.1 in rw (p.1, p.2) (unwritten_or c.in_err-state.field-0.0 refl)

pub returns-clause-same_writes : goal.returns-clause-same_writes
returns-clause-same_writes g c = c.write_state.ensures.same_writes
