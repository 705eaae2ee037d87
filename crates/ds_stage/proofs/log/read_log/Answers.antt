-- What the text of the log gives is what the file gives.
use Rattle.std.proofs.Common.{ℕ, List, subst, sym}
use Rattle.ds_outside.specs.Held.{FrontIsHeld}
use Rattle.ds_stage.specs.Stage.{OfFile, then_stage}
use Rattle.ds_stage.specs.Stages.{text_stage}
use Rattle.ds_stage.specs.ReplayStage.{fired_stage, kept_after, kept_stage}
use Rattle.ds_stage.specs.Ends.{Never, RoseIn}
use Rattle.ds_stage.proofs.Stages.{widened}
use Rattle.ds_stage.proofs.LogStages.{kept_wider}
use Rattle.ds_stage.proofs.FaultCounts.{well_read}
use Rattle.ds_stage.proofs.log.read_log.Goals as goal

pub returns-clause-value : goal.returns-clause-value
returns-clause-value g c =
    let held = g.F.Files.held c.args.files.now in
    let log : List ℕ = c.args.name.now in
    let text : List ℕ = c.deref.result.now in
    let more : OfFile = RoseIn (g.F.Files.faults c.args.files.now) (g.F.Files.faults c.read_text.new.files) in
    let front : FrontIsHeld (held log) 16777217 text = subst (λ (t : List ℕ). FrontIsHeld (held log) 16777217 t) (sym c.deref.ensures.value) c.in_ok-text.ensures.ok in
    widened (then_stage (then_stage (text_stage log text) (fired_stage log c.args.plan.now c.args.vectors.now.rows)) (kept_after c.args.plan.now c.args.vectors.now.rows))
    (kept_stage held log c.args.plan.now c.args.vectors.now.rows) Never more
    (kept_wider held log text c.args.plan.now c.args.vectors.now.rows more front) c.fired_in.result c.fired_in.ensures

pub returns-clause-same_reads : goal.returns-clause-same_reads
returns-clause-same_reads g c = well_read c.fired_in.result c.in_ok-text.ensures.same_reads
