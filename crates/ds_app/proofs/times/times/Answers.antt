use Rattle.std.proofs.Common.{◌≡◌, ◌∙◌, ℕ, List, Err, refl, subst, sym}
use Rattle.std.proofs.lemmas.Result.{err_from_is_err_and}
use Rattle.ds_outside.specs.Held.{Held}
use Rattle.ds_outside.specs.declared.files.Which.{Which}
use Rattle.ds_cmd.specs.declared.times.TimesJob.{TimesJob}
use Rattle.ds_latch.specs.Plan.{Planned}
use Rattle.ds_stage.specs.Ends.{Output, RoseIn, output_between}
use Rattle.ds_stage.proofs.TimesStages.{scheduled_since}
use Rattle.ds_app.proofs.LentNames.{times_ends}
use Rattle.ds_app.proofs.TimesEnds.{scheduled_job}
use Rattle.ds_app.proofs.PlannedEnds.{IsLater, ends_planned, later_still, stops_netlist, stops_plan}
use Rattle.ds_stage.proofs.FaultCounts.{unwritten_or}
use Rattle.ds_app.proofs.FaultCountsSince.{unread_since, well_read_since}
use Rattle.ds_app.proofs.times.times.Goals as goal

pub returns-in_err-netlist-clause-value : goal.returns-in_err-netlist-clause-value
returns-in_err-netlist-clause-value g c =
    let job : TimesJob = record c.args.job.now { net = c.as_str-net.result.now } in
    let p = err_from_is_err_and c.from_residual.result c.from_residual.ensures.1 in
    let out : Output = output_between g.O.Sink.written g.O.Sink.faults c.args.out.now c.args.out.now in
    rw (p.1, p.2) (times_ends (g.F.Files.held c.args.files.now) (RoseIn (g.F.Files.faults c.args.files.now) (g.F.Files.faults c.read_netlist.new.files)) out (Err c.in_err-netlist.field-0.0) c.args.job.now _ c.as_str-net.ensures
    (stops_netlist g.F.Files.held g.F.Files.faults c.args.files.now job.net job.graph job.groups job.clusters job.slack
    (scheduled_job (g.F.Files.held c.args.files.now) job.delays job.turns)
    c.read_netlist.new.files out c.in_err-netlist.field-0.0 refl c.in_err-netlist.ensures.value))

pub returns-in_err-plan-clause-value : goal.returns-in_err-plan-clause-value
returns-in_err-plan-clause-value g c =
    let job : TimesJob = record c.args.job.now { net = c.as_str-net.result.now } in
    let p = err_from_is_err_and c.from_residual-in_err-plan.result c.from_residual-in_err-plan.ensures.1 in
    let out : Output = output_between g.O.Sink.written g.O.Sink.faults c.args.out.now c.args.out.now in
    rw (p.1, p.2) (times_ends (g.F.Files.held c.args.files.now) (RoseIn (g.F.Files.faults c.args.files.now) (g.F.Files.faults c.plan_netlist.new.files)) out (Err c.in_err-plan.field-0.0) c.args.job.now _ c.as_str-net.ensures
    (stops_plan g.F.Files.held g.F.Files.faults c.args.files.now job.net job.graph job.groups job.clusters job.slack
    (scheduled_job (g.F.Files.held c.args.files.now) job.delays job.turns)
    c.read_netlist.new.files (record { same_held = c.in_ok-netlist.ensures.same_held; never_falls = c.in_ok-netlist.ensures.never_falls }) c.in_ok-netlist.netlist c.in_ok-netlist.ensures.value
    c.plan_netlist.new.files out c.in_err-plan.field-0.0 refl c.in_err-plan.ensures.value))

pub returns-clause-value : goal.returns-clause-value
returns-clause-value g c =
    let job : TimesJob = record c.args.job.now { net = c.as_str-net.result.now } in
    let held : List ℕ → Held = g.F.Files.held c.args.files.now in
    let made : List ℕ → Held = g.F.Files.held c.plan_netlist.new.files in
    let before : Which → List ℕ → ℕ = g.F.Files.faults c.args.files.now in
    let mid : Which → List ℕ → ℕ = g.F.Files.faults c.plan_netlist.new.files in
    let now : Which → List ℕ → ℕ = g.F.Files.faults c.write_scheduled.new.files in
    let plan : Planned = c.in_ok-plan.plan in
    let out : Output = output_between g.O.Sink.written g.O.Sink.faults c.args.out.now c.write_scheduled.new.out in
    let read : IsLater g.F.Files.held g.F.Files.faults c.args.files.now c.read_netlist.new.files =
    record { same_held = c.in_ok-netlist.ensures.same_held; never_falls = c.in_ok-netlist.ensures.never_falls } in
    let planned : IsLater g.F.Files.held g.F.Files.faults c.read_netlist.new.files c.plan_netlist.new.files =
    record { same_held = c.in_ok-plan.ensures.same_held; never_falls = c.in_ok-plan.ensures.never_falls } in
    let later = later_still g.F.Files.held g.F.Files.faults c.args.files.now c.read_netlist.new.files c.plan_netlist.new.files read planned in
    times_ends held (RoseIn before now) out c.write_scheduled.result c.args.job.now _ c.as_str-net.ensures
    (ends_planned g.F.Files.held g.F.Files.faults c.args.files.now job.net job.graph job.groups job.clusters job.slack
    (scheduled_job held job.delays job.turns)
    c.read_netlist.new.files read c.in_ok-netlist.netlist c.in_ok-netlist.ensures.value
    plan c.in_ok-plan.ensures.value c.write_scheduled.new.files out c.write_scheduled.result
    (scheduled_since before mid now held made job.delays job.turns plan.graph later.same_held later.never_falls out c.write_scheduled.result c.write_scheduled.ensures.value))

pub returns-in_err-netlist-clause-same_reads : goal.returns-in_err-netlist-clause-same_reads
returns-in_err-netlist-clause-same_reads g c = let p = err_from_is_err_and c.from_residual.result c.from_residual.ensures.1 in rw (p.1, p.2) (c.in_err-netlist.ensures.same_reads)

pub returns-in_err-netlist-clause-same_writes : goal.returns-in_err-netlist-clause-same_writes
returns-in_err-netlist-clause-same_writes g c = let p = err_from_is_err_and c.from_residual.result c.from_residual.ensures.1 in rw (p.1, p.2) (unwritten_or c.in_err-netlist.field-0.0 refl)

pub returns-in_err-plan-clause-same_reads : goal.returns-in_err-plan-clause-same_reads
returns-in_err-plan-clause-same_reads g c = let p = err_from_is_err_and c.from_residual-in_err-plan.result c.from_residual-in_err-plan.ensures.1 in rw (p.1, p.2) (unread_since _ c.in_err-plan.field-0.0 c.in_ok-netlist.ensures.same_reads c.in_err-plan.ensures.same_reads)

pub returns-in_err-plan-clause-same_writes : goal.returns-in_err-plan-clause-same_writes
returns-in_err-plan-clause-same_writes g c = let p = err_from_is_err_and c.from_residual-in_err-plan.result c.from_residual-in_err-plan.ensures.1 in rw (p.1, p.2) (unwritten_or c.in_err-plan.field-0.0 refl)

pub returns-clause-same_reads : goal.returns-clause-same_reads
returns-clause-same_reads g c = well_read_since _ c.write_scheduled.result (c.in_ok-plan.ensures.same_reads ∙ c.in_ok-netlist.ensures.same_reads) c.write_scheduled.ensures.same_reads

pub returns-clause-same_writes : goal.returns-clause-same_writes
returns-clause-same_writes g c = c.write_scheduled.ensures.same_writes
