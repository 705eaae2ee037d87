-- What the text of the graph gives is what the file gives.
use Rattle.std.proofs.Common.{ℕ, List, subst, sym}
use Rattle.ds_outside.specs.Held.{FrontIsHeld}
use Rattle.ds_stage.specs.Stage.{OfFile, then_stage}
use Rattle.ds_stage.specs.Stages.{text_stage}
use Rattle.ds_stage.specs.PlanStage.{marked_stage, named_stage}
use Rattle.ds_stage.specs.Ends.{Never, RoseIn}
use Rattle.ds_stage.proofs.Stages.{widened}
use Rattle.ds_stage.proofs.PlanStages.{named_wider}
use Rattle.ds_stage.proofs.FaultCounts.{well_read}
use Rattle.ds_stage.proofs.plan.named_plan.Goals as goal

pub returns-clause-value : goal.returns-clause-value
returns-clause-value g c =
    let held = g.F.Files.held c.args.files.now in
    let file : List ℕ = c.args.name.now in
    let text : List ℕ = c.deref.result.now in
    let more : OfFile = RoseIn (g.F.Files.faults c.args.files.now) (g.F.Files.faults c.read_text.new.files) in
    let front : FrontIsHeld (held file) 16777217 text = subst (λ (t : List ℕ). FrontIsHeld (held file) 16777217 t) (sym c.deref.ensures.value) c.in_ok-text.ensures.ok in
    widened (then_stage (text_stage file text) (marked_stage file c.args.latches)) (named_stage held file c.args.latches) Never more
    (named_wider held file text c.args.latches more front) c.plan_in.result c.plan_in.ensures

pub returns-clause-same_reads : goal.returns-clause-same_reads
returns-clause-same_reads g c = well_read c.plan_in.result c.in_ok-text.ensures.same_reads
