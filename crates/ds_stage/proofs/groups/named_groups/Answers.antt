-- What the text of the groups gives is what the file gives.
use Rattle.std.proofs.Common.{ℕ, List, subst, sym}
use Rattle.ds_outside.specs.Held.{FrontIsHeld}
use Rattle.ds_design.specs.Circuit.{Circuit}
use Rattle.ds_stage.specs.Stage.{OfFile, then_stage}
use Rattle.ds_stage.specs.Stages.{text_stage}
use Rattle.ds_stage.specs.GroupsStage.{grouped_stage, named_groups_stage}
use Rattle.ds_stage.specs.Ends.{Never, RoseIn}
use Rattle.ds_stage.proofs.FaultCounts.{well_read}
use Rattle.ds_stage.proofs.GroupStages.{groups_wider}
use Rattle.ds_stage.proofs.Stages.{widened}
use Rattle.ds_stage.proofs.groups.named_groups.Goals as goal

pub returns-clause-value : goal.returns-clause-value
returns-clause-value g c =
    let held = g.F.Files.held c.args.files.now in
    let file : List ℕ = c.args.name.now in
    let text : List ℕ = c.deref.result.now in
    let circuit : Circuit = c.args.netlist.now in
    let more : OfFile = RoseIn (g.F.Files.faults c.args.files.now) (g.F.Files.faults c.read_text.new.files) in
    let front : FrontIsHeld (held file) 16777217 text =
    subst (λ (t : List ℕ). FrontIsHeld (held file) 16777217 t) (sym c.deref.ensures.value) c.in_ok-text.ensures.ok in
    widened (then_stage (text_stage file text) (grouped_stage file circuit)) (named_groups_stage held file circuit) Never more
    (groups_wider held file circuit text more front) c.groups_in.result c.groups_in.ensures.value

pub returns-clause-same_reads : goal.returns-clause-same_reads
returns-clause-same_reads g c = well_read c.groups_in.result c.in_ok-text.ensures.same_reads
