-- What the text of the file gives is what the file gives.
use Rattle.std.proofs.Common.{ℕ, List, Ok, Err, subst, sym}
use Rattle.std.proofs.lemmas.Result.{err_from_is_err_and}
use Rattle.ds_outside.specs.Held.{FrontIsHeld}
use Rattle.ds_design.specs.Circuit.{Circuit}
use Rattle.ds_stage.specs.Stage.{OfFile, then_stage}
use Rattle.ds_stage.specs.Stages.{accepted_stage, design_stage, file_stage, text_stage}
use Rattle.ds_stage.specs.Ends.{Never, RoseIn}
use Rattle.ds_stage.specs.declared.stop.Stop.{Stop}
use Rattle.ds_stage.proofs.Stages.{stopped, passed, widened, file_wider}
use Rattle.ds_stage.proofs.FaultCounts.{unread_or, well_read}
use Rattle.ds_stage.proofs.source.read_netlist.Goals as goal

pub returns-in_err-design-clause-value : goal.returns-in_err-design-clause-value
returns-in_err-design-clause-value g c =
    let held = g.F.Files.held c.args.files.now in
    let net : List ℕ = c.args.name.now in
    let text : List ℕ = c.deref.result.now in
    let more : OfFile = RoseIn (g.F.Files.faults c.args.files.now) (g.F.Files.faults c.read_text.new.files) in
    let front : FrontIsHeld (held net) 16777217 text = subst (λ (t : List ℕ). FrontIsHeld (held net) 16777217 t) (sym c.deref.ensures.value) c.in_ok-text.ensures.ok in
    let stop : Stop = c.in_err-design.field-0.0 in
    let p = err_from_is_err_and c.from_residual-in_err-design.result c.from_residual-in_err-design.ensures.1 in
    rw (p.1, p.2) (stopped (file_stage held net) (accepted_stage net) more stop
    (widened {A = Circuit} (then_stage (text_stage net text) (design_stage net)) (file_stage held net) Never more (file_wider held net text more front) (Err stop) c.in_err-design.ensures))

pub returns-clause-value : goal.returns-clause-value
returns-clause-value g c =
    let held = g.F.Files.held c.args.files.now in
    let net : List ℕ = c.args.name.now in
    let text : List ℕ = c.deref.result.now in
    let more : OfFile = RoseIn (g.F.Files.faults c.args.files.now) (g.F.Files.faults c.read_text.new.files) in
    let front : FrontIsHeld (held net) 16777217 text = subst (λ (t : List ℕ). FrontIsHeld (held net) 16777217 t) (sym c.deref.ensures.value) c.in_ok-text.ensures.ok in
    let design : Circuit = c.in_ok-design.design in
    passed (file_stage held net) (accepted_stage net) more design
    (widened (then_stage (text_stage net text) (design_stage net)) (file_stage held net) Never more (file_wider held net text more front) (Ok design) c.in_ok-design.ensures)
    c.accepted_netlist.result
    (widened (accepted_stage net design) (accepted_stage net design) Never more (record { means = λ a is. is; refused = λ line is. is; unread = λ line none. absurd none }) c.accepted_netlist.result c.accepted_netlist.ensures)

pub returns-in_err-design-clause-same_reads : goal.returns-in_err-design-clause-same_reads
returns-in_err-design-clause-same_reads g c =
    let p = err_from_is_err_and c.from_residual-in_err-design.result c.from_residual-in_err-design.ensures.1 in
    rw (p.1, p.2) (unread_or c.in_err-design.field-0.0 c.in_ok-text.ensures.same_reads)

pub returns-clause-same_reads : goal.returns-clause-same_reads
returns-clause-same_reads g c = well_read c.accepted_netlist.result c.in_ok-text.ensures.same_reads
