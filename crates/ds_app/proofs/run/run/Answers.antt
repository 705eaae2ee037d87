use Rattle.std.proofs.Common.{◌≡◌, ℕ, List, Err, ap, refl, subst, ◌∙◌}
use Rattle.std.proofs.lemmas.Result.{err_from_is_err_and}
use Rattle.ds_outside.specs.Held.{Held}
use Rattle.ds_outside.specs.declared.files.Which.{Which}
use Rattle.ds_design.specs.Circuit.{Circuit}
use Rattle.ds_latch.specs.Plan.{Planned}
use Rattle.ds_cmd.specs.declared.run.RunJob.{RunJob}
use Rattle.ds_app.specs.Job.{run_stage}
use Rattle.ds_app.specs.RunStage.{planned_run_stage}
use Rattle.ds_stage.specs.Stage.{then_stage}
use Rattle.ds_stage.specs.Stages.{netlist_stage}
use Rattle.ds_stage.specs.Ends.{Ends, Output, RoseIn, output_between}
use Rattle.ds_stage.proofs.StageEnds.{never_fell}
use Rattle.ds_stage.proofs.PlanAccepted.{planned_circuit, planned_start}
use Rattle.ds_app.proofs.PlannedEnds.{ends_planned, stops_netlist, stops_plan}
use Rattle.ds_app.proofs.StoppedEnds.{planned_run_since}
use Rattle.ds_stage.proofs.FaultCounts.{unwritten_or}
use Rattle.ds_app.proofs.FaultCountsSince.{unread_since, well_read_since}
use Rattle.ds_app.proofs.run.run.Goals as goal

pub returns-in_err-netlist-clause-value : goal.returns-in_err-netlist-clause-value
returns-in_err-netlist-clause-value g c =
    let held : List ℕ → Held = g.F.Files.held c.args.files.now in
    let job : RunJob = record c.args.job.now { net = c.as_str-net.result.now } in
    let out : Output = output_between g.O.Sink.written g.O.Sink.faults c.args.out.now c.args.out.now in
    let p = err_from_is_err_and c.from_residual.result c.from_residual.ensures.1 in
    rw (p.1, p.2) (subst (λ (j : RunJob). Ends {A = Unit {0}} (then_stage (netlist_stage held j.net) (run_stage held j)) (RoseIn (g.F.Files.faults c.args.files.now) (g.F.Files.faults c.read_netlist.new.files)) out (Err c.in_err-netlist.field-0.0)) (ap (λ (n : List ℕ). record c.args.job.now { net = n }) c.as_str-net.ensures)
    (stops_netlist g.F.Files.held g.F.Files.faults c.args.files.now job.net job.graph job.groups job.clusters job.slack
    (planned_run_stage held job.vec job.log job.jobs job.stop)
    c.read_netlist.new.files out c.in_err-netlist.field-0.0 refl c.in_err-netlist.ensures.value))

pub returns-in_err-plan-clause-value : goal.returns-in_err-plan-clause-value
returns-in_err-plan-clause-value g c =
    let held : List ℕ → Held = g.F.Files.held c.args.files.now in
    let job : RunJob = record c.args.job.now { net = c.as_str-net.result.now } in
    let out : Output = output_between g.O.Sink.written g.O.Sink.faults c.args.out.now c.args.out.now in
    let p = err_from_is_err_and c.from_residual-in_err-plan.result c.from_residual-in_err-plan.ensures.1 in
    rw (p.1, p.2) (subst (λ (j : RunJob). Ends {A = Unit {0}} (then_stage (netlist_stage held j.net) (run_stage held j)) (RoseIn (g.F.Files.faults c.args.files.now) (g.F.Files.faults c.plan_netlist.new.files)) out (Err c.in_err-plan.field-0.0)) (ap (λ (n : List ℕ). record c.args.job.now { net = n }) c.as_str-net.ensures)
    (stops_plan g.F.Files.held g.F.Files.faults c.args.files.now job.net job.graph job.groups job.clusters job.slack
    (planned_run_stage held job.vec job.log job.jobs job.stop)
    c.read_netlist.new.files (record { same_held = c.in_ok-netlist.ensures.same_held; never_falls = c.in_ok-netlist.ensures.never_falls }) c.in_ok-netlist.netlist c.in_ok-netlist.ensures.value
    c.plan_netlist.new.files out c.in_err-plan.field-0.0 refl c.in_err-plan.ensures.value))

pub run_planned-requires-clause-start : goal.run_planned-requires-clause-start
run_planned-requires-clause-start g c _ _ =
    planned_start (g.F.Files.held c.read_netlist.new.files) c.as_str-net.result.now c.args.job.now.graph c.args.job.now.groups c.args.job.now.clusters c.args.job.now.slack c.in_ok-netlist.netlist c.in_ok-plan.plan c.in_ok-plan.ensures.value

pub run_planned-requires-clause-jobs : goal.run_planned-requires-clause-jobs
run_planned-requires-clause-jobs g c _ _ = c.requires.jobs

pub returns-clause-value : goal.returns-clause-value
returns-clause-value g c =
    let held : List ℕ → Held = g.F.Files.held c.args.files.now in
    let job : RunJob = record c.args.job.now { net = c.as_str-net.result.now } in
    let later : List ℕ → Held = g.F.Files.held c.plan_netlist.new.files in
    let before : Which → List ℕ → ℕ = g.F.Files.faults c.args.files.now in
    let mid : Which → List ℕ → ℕ = g.F.Files.faults c.plan_netlist.new.files in
    let now : Which → List ℕ → ℕ = g.F.Files.faults c.run_planned.new.files in
    let circuit : Circuit = c.in_ok-netlist.netlist in
    let plan : Planned = c.in_ok-plan.plan in
    let same : plan.split.circuit ≡ circuit =
    planned_circuit (g.F.Files.held c.read_netlist.new.files) job.net job.graph job.groups job.clusters job.slack circuit plan c.in_ok-plan.ensures.value in
    let out : Output = output_between g.O.Sink.written g.O.Sink.faults c.args.out.now c.run_planned.new.out in
    let run : Ends {A = Unit {0}} (planned_run_stage later job.vec job.log job.jobs job.stop circuit plan) (RoseIn mid now) out c.run_planned.result =
    subst (λ (k : Circuit). Ends {A = Unit {0}} (planned_run_stage later job.vec job.log job.jobs job.stop k plan) (RoseIn mid now) out c.run_planned.result) same c.run_planned.ensures.value in
    subst (λ (j : RunJob). Ends {A = Unit {0}} (then_stage (netlist_stage held j.net) (run_stage held j)) (RoseIn before now) out c.run_planned.result) (ap (λ (n : List ℕ). record c.args.job.now { net = n }) c.as_str-net.ensures)
    (ends_planned g.F.Files.held g.F.Files.faults c.args.files.now job.net job.graph job.groups job.clusters job.slack
    (planned_run_stage held job.vec job.log job.jobs job.stop)
    c.read_netlist.new.files (record { same_held = c.in_ok-netlist.ensures.same_held; never_falls = c.in_ok-netlist.ensures.never_falls }) circuit c.in_ok-netlist.ensures.value
    plan c.in_ok-plan.ensures.value c.run_planned.new.files out c.run_planned.result
    (planned_run_since held later job.vec job.log job.jobs job.stop circuit plan before mid now
    (c.in_ok-plan.ensures.same_held ∙ c.in_ok-netlist.ensures.same_held)
    (never_fell before (g.F.Files.faults c.read_netlist.new.files) mid c.in_ok-netlist.ensures.never_falls c.in_ok-plan.ensures.never_falls)
    out c.run_planned.result run))

pub returns-in_err-netlist-clause-same_held : goal.returns-in_err-netlist-clause-same_held
returns-in_err-netlist-clause-same_held g c = c.in_err-netlist.ensures.same_held

pub returns-in_err-plan-clause-same_held : goal.returns-in_err-plan-clause-same_held
returns-in_err-plan-clause-same_held g c = c.in_err-plan.ensures.same_held ∙ c.in_ok-netlist.ensures.same_held

pub returns-clause-same_held : goal.returns-clause-same_held
returns-clause-same_held g c = c.run_planned.ensures.same_held ∙ (c.in_ok-plan.ensures.same_held ∙ c.in_ok-netlist.ensures.same_held)

pub returns-in_err-netlist-clause-same_writes : goal.returns-in_err-netlist-clause-same_writes
returns-in_err-netlist-clause-same_writes g c = let p = err_from_is_err_and c.from_residual.result c.from_residual.ensures.1 in rw (p.1, p.2) (unwritten_or c.in_err-netlist.field-0.0 refl)

pub returns-in_err-netlist-clause-same_reads : goal.returns-in_err-netlist-clause-same_reads
returns-in_err-netlist-clause-same_reads g c = let p = err_from_is_err_and c.from_residual.result c.from_residual.ensures.1 in rw (p.1, p.2) (c.in_err-netlist.ensures.same_reads)

pub returns-in_err-plan-clause-same_writes : goal.returns-in_err-plan-clause-same_writes
returns-in_err-plan-clause-same_writes g c = let p = err_from_is_err_and c.from_residual-in_err-plan.result c.from_residual-in_err-plan.ensures.1 in rw (p.1, p.2) (unwritten_or c.in_err-plan.field-0.0 refl)

pub returns-in_err-plan-clause-same_reads : goal.returns-in_err-plan-clause-same_reads
returns-in_err-plan-clause-same_reads g c = let p = err_from_is_err_and c.from_residual-in_err-plan.result c.from_residual-in_err-plan.ensures.1 in rw (p.1, p.2) (unread_since _ c.in_err-plan.field-0.0 c.in_ok-netlist.ensures.same_reads c.in_err-plan.ensures.same_reads)

pub returns-clause-same_writes : goal.returns-clause-same_writes
returns-clause-same_writes g c = c.run_planned.ensures.same_writes

pub returns-clause-same_reads : goal.returns-clause-same_reads
returns-clause-same_reads g c = well_read_since _ c.run_planned.result (c.in_ok-plan.ensures.same_reads ∙ c.in_ok-netlist.ensures.same_reads) c.run_planned.ensures.same_reads
