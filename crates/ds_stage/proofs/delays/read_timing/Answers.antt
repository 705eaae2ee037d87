-- What the text of the delays gives is what the file gives.
use Rattle.std.proofs.Common.{ℕ, List, subst, sym}
use Rattle.ds_outside.specs.Held.{FrontIsHeld}
use Rattle.ds_marked.specs.Graph.{Graph}
use Rattle.ds_stage.specs.Stage.{OfFile, then_stage}
use Rattle.ds_stage.specs.Stages.{text_stage}
use Rattle.ds_stage.specs.PeriodStage.{delays_stage, given_stage}
use Rattle.ds_stage.specs.Ends.{Never, RoseIn}
use Rattle.ds_stage.proofs.Stages.{widened}
use Rattle.ds_stage.proofs.PeriodStages.{delays_wider}
use Rattle.ds_stage.proofs.FaultCounts.{well_read}
use Rattle.ds_stage.proofs.delays.read_timing.Goals as goal

pub returns-clause-value : goal.returns-clause-value
returns-clause-value g c =
    let held = g.F.Files.held c.args.files.now in
    let file : List ℕ = c.args.name.now in
    let text : List ℕ = c.deref.result.now in
    let graph : Graph = c.args.graph.now in
    let now = g.F.Files.faults c.read_text.new.files in
    let more : OfFile = RoseIn (g.F.Files.faults c.args.files.now) now in
    let front : FrontIsHeld (held file) 16777217 text =
    subst (λ (t : List ℕ). FrontIsHeld (held file) 16777217 t) (sym c.deref.ensures.value)
    c.in_ok-text.ensures.ok in
    widened (then_stage (text_stage file text) (given_stage file graph))
    (delays_stage held file graph) Never more (delays_wider held file text graph more front)
    c.delays_in.result c.delays_in.ensures.value

pub returns-clause-same_reads : goal.returns-clause-same_reads
returns-clause-same_reads g c = well_read c.delays_in.result c.in_ok-text.ensures.same_reads
