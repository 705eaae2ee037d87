use Rattle.std.proofs.Common.{Some, Err, refl, ◌∙◌}
use Rattle.std.proofs.lemmas.Result.{err_from_is_err_and}
use Rattle.ds_design.specs.Circuit.{Circuit}
use Rattle.ds_latch.specs.Plan.{Planned}
use Rattle.ds_cmd.specs.declared.accept.AcceptJob.{AcceptJob}
use Rattle.ds_stage.specs.Stage.{OfFile}
use Rattle.ds_stage.specs.AcceptStage.{ranks_stage}
use Rattle.ds_stage.specs.Ends.{Never, Output, RoseIn, output_between}
use Rattle.ds_stage.proofs.StageEnds.{ends_more}
use Rattle.ds_stage.proofs.StagesLeaveNothing.{giving_nothing}
use Rattle.ds_app.proofs.LentNames.{accept_ends}
use Rattle.ds_app.proofs.PlannedEnds.{ends_planned, stops_netlist, stops_plan}
use Rattle.ds_stage.proofs.FaultCounts.{unwritten_or, well_read}
use Rattle.ds_app.proofs.FaultCountsSince.{unread_since}
use Rattle.ds_app.proofs.accept.accept.Goals as goal

pub returns-in_err-netlist-clause-value : goal.returns-in_err-netlist-clause-value
returns-in_err-netlist-clause-value g c =
    let job : AcceptJob = record c.args.job.now { net = c.as_str-net.result.now; graph = c.as_str-graph.result.now } in
    let p = err_from_is_err_and c.from_residual.result c.from_residual.ensures.1 in
    let out : Output = output_between g.O.Sink.written g.O.Sink.faults c.args.out.now c.args.out.now in
    rw (p.1, p.2) (accept_ends (g.F.Files.held c.args.files.now) (RoseIn (g.F.Files.faults c.args.files.now) (g.F.Files.faults c.read_netlist.new.files)) out (Err c.in_err-netlist.field-0.0) c.args.job.now _ _ c.as_str-net.ensures c.as_str-graph.ensures
    (stops_netlist g.F.Files.held g.F.Files.faults c.args.files.now job.net (Some job.graph) job.groups job.clusters job.slack (λ (k : Circuit). ranks_stage)
    c.read_netlist.new.files out c.in_err-netlist.field-0.0 refl c.in_err-netlist.ensures.value))

pub returns-in_err-plan-clause-value : goal.returns-in_err-plan-clause-value
returns-in_err-plan-clause-value g c =
    let job : AcceptJob = record c.args.job.now { net = c.as_str-net.result.now; graph = c.as_str-graph.result.now } in
    let p = err_from_is_err_and c.from_residual-in_err-plan.result c.from_residual-in_err-plan.ensures.1 in
    let out : Output = output_between g.O.Sink.written g.O.Sink.faults c.args.out.now c.args.out.now in
    rw (p.1, p.2) (accept_ends (g.F.Files.held c.args.files.now) (RoseIn (g.F.Files.faults c.args.files.now) (g.F.Files.faults c.plan_named.new.files)) out (Err c.in_err-plan.field-0.0) c.args.job.now _ _ c.as_str-net.ensures c.as_str-graph.ensures
    (stops_plan g.F.Files.held g.F.Files.faults c.args.files.now job.net (Some job.graph) job.groups job.clusters job.slack (λ (k : Circuit). ranks_stage)
    c.read_netlist.new.files (record { same_held = c.in_ok-netlist.ensures.same_held; never_falls = c.in_ok-netlist.ensures.never_falls }) c.in_ok-netlist.netlist c.in_ok-netlist.ensures.value
    c.plan_named.new.files out c.in_err-plan.field-0.0 refl c.in_err-plan.ensures.value))

pub returns-clause-value : goal.returns-clause-value
returns-clause-value g c =
    let job : AcceptJob = record c.args.job.now { net = c.as_str-net.result.now; graph = c.as_str-graph.result.now } in
    let plan : Planned = c.in_ok-plan.plan in
    let more : OfFile = RoseIn (g.F.Files.faults c.args.files.now) (g.F.Files.faults c.plan_named.new.files) in
    let out : Output = output_between g.O.Sink.written g.O.Sink.faults c.args.out.now c.write_accepted.new.out in
    accept_ends (g.F.Files.held c.args.files.now) more out c.write_accepted.result c.args.job.now _ _ c.as_str-net.ensures c.as_str-graph.ensures
    (ends_planned g.F.Files.held g.F.Files.faults c.args.files.now job.net (Some job.graph) job.groups job.clusters job.slack (λ (k : Circuit). ranks_stage)
    c.read_netlist.new.files (record { same_held = c.in_ok-netlist.ensures.same_held; never_falls = c.in_ok-netlist.ensures.never_falls }) c.in_ok-netlist.netlist c.in_ok-netlist.ensures.value
    plan c.in_ok-plan.ensures.value c.plan_named.new.files out c.write_accepted.result
    (ends_more {A = Unit {0}} (ranks_stage plan) Never more out (giving_nothing (ranks_stage plan).means) (λ line none. absurd none) c.write_accepted.result c.write_accepted.ensures.value))

pub returns-in_err-netlist-clause-same_reads : goal.returns-in_err-netlist-clause-same_reads
returns-in_err-netlist-clause-same_reads g c = let p = err_from_is_err_and c.from_residual.result c.from_residual.ensures.1 in rw (p.1, p.2) (c.in_err-netlist.ensures.same_reads)

pub returns-in_err-netlist-clause-same_writes : goal.returns-in_err-netlist-clause-same_writes
returns-in_err-netlist-clause-same_writes g c = let p = err_from_is_err_and c.from_residual.result c.from_residual.ensures.1 in rw (p.1, p.2) (unwritten_or c.in_err-netlist.field-0.0 refl)

pub returns-in_err-plan-clause-same_reads : goal.returns-in_err-plan-clause-same_reads
returns-in_err-plan-clause-same_reads g c = let p = err_from_is_err_and c.from_residual-in_err-plan.result c.from_residual-in_err-plan.ensures.1 in rw (p.1, p.2) (unread_since _ c.in_err-plan.field-0.0 c.in_ok-netlist.ensures.same_reads c.in_err-plan.ensures.same_reads)

pub returns-in_err-plan-clause-same_writes : goal.returns-in_err-plan-clause-same_writes
returns-in_err-plan-clause-same_writes g c = let p = err_from_is_err_and c.from_residual-in_err-plan.result c.from_residual-in_err-plan.ensures.1 in rw (p.1, p.2) (unwritten_or c.in_err-plan.field-0.0 refl)

pub returns-clause-same_reads : goal.returns-clause-same_reads
returns-clause-same_reads g c = well_read c.write_accepted.result (c.in_ok-plan.ensures.same_reads ∙ c.in_ok-netlist.ensures.same_reads)

pub returns-clause-same_writes : goal.returns-clause-same_writes
returns-clause-same_writes g c = c.write_accepted.ensures.same_writes
