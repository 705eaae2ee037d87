use Rattle.std.proofs.Common.{◌≡◌, ◌∙◌, ℕ, List, Err, refl, subst, sym}
use Rattle.std.proofs.lemmas.Result.{err_from_is_err_and}
use Rattle.ds_outside.specs.Held.{Held}
use Rattle.ds_outside.specs.declared.files.Which.{Which}
use Rattle.ds_marked.specs.Graph.{Graph}
use Rattle.ds_cmd.specs.declared.period.PeriodJob.{PeriodJob}
use Rattle.ds_latch.specs.Plan.{Planned}
use Rattle.ds_period.specs.Controller.{HasPeriod}
use Rattle.ds_stage.specs.Ends.{Ends, Output, RoseIn, output_between}
use Rattle.ds_stage.specs.PeriodStage.{timed_stage}
use Rattle.ds_stage.proofs.PeriodStages.{timed_since}
use Rattle.ds_app.proofs.LentNames.{period_ends}
use Rattle.ds_app.proofs.PeriodEnds.{timed_job}
use Rattle.ds_app.proofs.PlannedEnds.{IsLater, ends_planned, later_still, stops_netlist, stops_plan}
use Rattle.ds_stage.proofs.FaultCounts.{unwritten_or}
use Rattle.ds_app.proofs.FaultCountsSince.{unread_since, well_read_since}
use Rattle.ds_app.proofs.period.period.Goals as goal

pub returns-in_err-netlist-clause-value : goal.returns-in_err-netlist-clause-value
returns-in_err-netlist-clause-value g c =
    let job : PeriodJob = record c.args.job.now { net = c.as_str-net.result.now; delays = c.as_str-delays.result.now } in
    let p = err_from_is_err_and c.from_residual.result c.from_residual.ensures.1 in
    let out : Output = output_between g.O.Sink.written g.O.Sink.faults c.args.out.now c.args.out.now in
    rw (p.1, p.2) (period_ends (g.F.Files.held c.args.files.now) (RoseIn (g.F.Files.faults c.args.files.now) (g.F.Files.faults c.read_netlist.new.files)) out (Err c.in_err-netlist.field-0.0) c.args.job.now _ _ c.as_str-net.ensures c.as_str-delays.ensures
    (stops_netlist g.F.Files.held g.F.Files.faults c.args.files.now job.net job.graph job.groups job.clusters job.slack
    (timed_job (g.F.Files.held c.args.files.now) job.delays)
    c.read_netlist.new.files out c.in_err-netlist.field-0.0 refl c.in_err-netlist.ensures.value))

pub returns-in_err-plan-clause-value : goal.returns-in_err-plan-clause-value
returns-in_err-plan-clause-value g c =
    let job : PeriodJob = record c.args.job.now { net = c.as_str-net.result.now; delays = c.as_str-delays.result.now } in
    let p = err_from_is_err_and c.from_residual-in_err-plan.result c.from_residual-in_err-plan.ensures.1 in
    let out : Output = output_between g.O.Sink.written g.O.Sink.faults c.args.out.now c.args.out.now in
    rw (p.1, p.2) (period_ends (g.F.Files.held c.args.files.now) (RoseIn (g.F.Files.faults c.args.files.now) (g.F.Files.faults c.plan_netlist.new.files)) out (Err c.in_err-plan.field-0.0) c.args.job.now _ _ c.as_str-net.ensures c.as_str-delays.ensures
    (stops_plan g.F.Files.held g.F.Files.faults c.args.files.now job.net job.graph job.groups job.clusters job.slack
    (timed_job (g.F.Files.held c.args.files.now) job.delays)
    c.read_netlist.new.files (record { same_held = c.in_ok-netlist.ensures.same_held; never_falls = c.in_ok-netlist.ensures.never_falls }) c.in_ok-netlist.netlist c.in_ok-netlist.ensures.value
    c.plan_netlist.new.files out c.in_err-plan.field-0.0 refl c.in_err-plan.ensures.value))

pub measure-requires : goal.measure-requires
measure-requires g c =
    subst (λ (k : Graph). HasPeriod k) (sym c.graph.ensures.graph)
    (c.plans_have_periods.ensures c.in_ok-plan.plan.split c.in_ok-plan.plan.graph c.graph.ensures.accepted)

pub returns-clause-value : goal.returns-clause-value
returns-clause-value g c =
    let job : PeriodJob = record c.args.job.now { net = c.as_str-net.result.now; delays = c.as_str-delays.result.now } in
    let held : List ℕ → Held = g.F.Files.held c.args.files.now in
    let made : List ℕ → Held = g.F.Files.held c.plan_netlist.new.files in
    let before : Which → List ℕ → ℕ = g.F.Files.faults c.args.files.now in
    let mid : Which → List ℕ → ℕ = g.F.Files.faults c.plan_netlist.new.files in
    let now : Which → List ℕ → ℕ = g.F.Files.faults c.measure.new.files in
    let plan : Planned = c.in_ok-plan.plan in
    let out : Output = output_between g.O.Sink.written g.O.Sink.faults c.args.out.now c.measure.new.out in
    let read : IsLater g.F.Files.held g.F.Files.faults c.args.files.now c.read_netlist.new.files =
    record { same_held = c.in_ok-netlist.ensures.same_held; never_falls = c.in_ok-netlist.ensures.never_falls } in
    let planned : IsLater g.F.Files.held g.F.Files.faults c.read_netlist.new.files c.plan_netlist.new.files =
    record { same_held = c.in_ok-plan.ensures.same_held; never_falls = c.in_ok-plan.ensures.never_falls } in
    let later = later_still g.F.Files.held g.F.Files.faults c.args.files.now c.read_netlist.new.files c.plan_netlist.new.files read planned in
    let measured : Ends (timed_stage made job.delays plan.graph) (RoseIn mid now) out c.measure.result =
    subst (λ (k : Graph). Ends (timed_stage made job.delays k) (RoseIn mid now) out c.measure.result) c.graph.ensures.graph c.measure.ensures.value in
    period_ends held (RoseIn before now) out c.measure.result c.args.job.now _ _ c.as_str-net.ensures c.as_str-delays.ensures
    (ends_planned g.F.Files.held g.F.Files.faults c.args.files.now job.net job.graph job.groups job.clusters job.slack
    (timed_job held job.delays)
    c.read_netlist.new.files read c.in_ok-netlist.netlist c.in_ok-netlist.ensures.value
    plan c.in_ok-plan.ensures.value c.measure.new.files out c.measure.result
    (timed_since before mid now held made job.delays plan.graph later.same_held later.never_falls out c.measure.result measured))

pub returns-in_err-netlist-clause-same_reads : goal.returns-in_err-netlist-clause-same_reads
returns-in_err-netlist-clause-same_reads g c = let p = err_from_is_err_and c.from_residual.result c.from_residual.ensures.1 in rw (p.1, p.2) (c.in_err-netlist.ensures.same_reads)

pub returns-in_err-netlist-clause-same_writes : goal.returns-in_err-netlist-clause-same_writes
returns-in_err-netlist-clause-same_writes g c = let p = err_from_is_err_and c.from_residual.result c.from_residual.ensures.1 in rw (p.1, p.2) (unwritten_or c.in_err-netlist.field-0.0 refl)

pub returns-in_err-plan-clause-same_reads : goal.returns-in_err-plan-clause-same_reads
returns-in_err-plan-clause-same_reads g c = let p = err_from_is_err_and c.from_residual-in_err-plan.result c.from_residual-in_err-plan.ensures.1 in rw (p.1, p.2) (unread_since _ c.in_err-plan.field-0.0 c.in_ok-netlist.ensures.same_reads c.in_err-plan.ensures.same_reads)

pub returns-in_err-plan-clause-same_writes : goal.returns-in_err-plan-clause-same_writes
returns-in_err-plan-clause-same_writes g c = let p = err_from_is_err_and c.from_residual-in_err-plan.result c.from_residual-in_err-plan.ensures.1 in rw (p.1, p.2) (unwritten_or c.in_err-plan.field-0.0 refl)

pub returns-clause-same_reads : goal.returns-clause-same_reads
returns-clause-same_reads g c = well_read_since _ c.measure.result (c.in_ok-plan.ensures.same_reads ∙ c.in_ok-netlist.ensures.same_reads) c.measure.ensures.same_reads

pub returns-clause-same_writes : goal.returns-clause-same_writes
returns-clause-same_writes g c = c.measure.ensures.same_writes
