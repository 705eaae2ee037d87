-- Behind the split, the plan.
use Rattle.std.proofs.Common.{◌∙◌, ℕ, List, Option, Some, subst}
use Rattle.std.proofs.lemmas.Result.{err_from_is_err_and}
use Rattle.ds_base.specs.declared.number.Mode.{Mode}
use Rattle.ds_design.specs.Circuit.{Circuit}
use Rattle.ds_outside.specs.Held.{Held}
use Rattle.ds_outside.specs.declared.files.Which.{Which}
use Rattle.ds_latch.specs.Node.{Split, slackened}
use Rattle.ds_latch.specs.Plan.{Planned}
use Rattle.ds_stage.specs.Stage.{OfFile}
use Rattle.ds_stage.specs.SplitStage.{split_stage}
use Rattle.ds_stage.specs.PlanStage.{plan_stage}
use Rattle.ds_stage.specs.Ends.{Answers, RoseIn}
use Rattle.ds_stage.proofs.Stages.{passed, stopped, widened}
use Rattle.ds_stage.proofs.StageEnds.{never_fell, plan_since}
use Rattle.ds_stage.proofs.FaultCounts.{well_read_so}
use Rattle.ds_stage.proofs.plan.plan_netlist.Goals as goal

pub returns-in_err-latches-clause-value : goal.returns-in_err-latches-clause-value
returns-in_err-latches-clause-value g c =
    let held = g.F.Files.held c.args.files.now in
    let more : OfFile = RoseIn (g.F.Files.faults c.args.files.now) (g.F.Files.faults c.split_netlist.new.files) in
    let p = err_from_is_err_and c.from_residual.result c.from_residual.ensures.1 in
    rw (p.1, p.2) (stopped (split_stage held c.args.net.now c.args.splitting.groups.now c.args.splitting.clusters c.args.netlist.now)
    (λ (s : Split). plan_stage held c.args.graph.now (slackened s c.args.splitting.slack)) more c.in_err-latches.field-0.0 c.in_err-latches.ensures.value)

pub returns-clause-value : goal.returns-clause-value
returns-clause-value g c =
    let held : List ℕ → Held = g.F.Files.held c.args.files.now in
    let later : List ℕ → Held = g.F.Files.held c.split_netlist.new.files in
    let graph : Option (List ℕ) = c.args.graph.now in
    let before : Which → List ℕ → ℕ = g.F.Files.faults c.args.files.now in
    let mid : Which → List ℕ → ℕ = g.F.Files.faults c.split_netlist.new.files in
    let now : Which → List ℕ → ℕ = g.F.Files.faults c.plan_of.new.files in
    let latches : Split = slackened c.in_ok-latches.latches c.args.splitting.slack in
    let planned : Answers {A = Planned} (plan_stage later graph latches) (RoseIn mid now) c.plan_of.result =
    subst (λ (s : Split). Answers {A = Planned} (plan_stage later graph s) (RoseIn mid now) c.plan_of.result) c.with_slack.ensures c.plan_of.ensures.value in
    passed (split_stage held c.args.net.now c.args.splitting.groups.now c.args.splitting.clusters c.args.netlist.now)
    (λ (s : Split). plan_stage held graph (slackened s c.args.splitting.slack)) (RoseIn before now) c.in_ok-latches.latches c.in_ok-latches.ensures.value c.plan_of.result
    (widened {A = Planned} (plan_stage later graph latches) (plan_stage held graph latches) (RoseIn mid now) (RoseIn before now)
    (plan_since held later before mid now c.in_ok-latches.ensures.same_held c.in_ok-latches.ensures.never_falls graph latches) c.plan_of.result planned)

pub returns-in_err-latches-clause-same_reads : goal.returns-in_err-latches-clause-same_reads
returns-in_err-latches-clause-same_reads g c =
    let p = err_from_is_err_and c.from_residual.result c.from_residual.ensures.1 in
    rw (p.1, p.2) c.in_err-latches.ensures.same_reads

pub returns-clause-same_reads : goal.returns-clause-same_reads
returns-clause-same_reads g c = well_read_so c.plan_of.result (λ same. same ∙ c.in_ok-latches.ensures.same_reads) c.plan_of.ensures.same_reads

pub returns-clause-never_falls : goal.returns-clause-never_falls
returns-clause-never_falls g c =
    never_fell (g.F.Files.faults c.args.files.now) (g.F.Files.faults c.split_netlist.new.files) (g.F.Files.faults c.plan_of.new.files)
    c.in_ok-latches.ensures.never_falls c.plan_of.ensures.never_falls
