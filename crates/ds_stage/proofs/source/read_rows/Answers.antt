-- What the text of the file gives is what the file gives.
use Rattle.std.proofs.Common.{ℕ, List, length, subst, sym}
use Rattle.ds_outside.specs.Held.{FrontIsHeld}
use Rattle.ds_design.specs.Circuit.{Circuit, columns}
use Rattle.ds_stage.specs.Stage.{OfFile, then_stage}
use Rattle.ds_stage.specs.Stages.{rows_stage, text_stage, vectors_stage}
use Rattle.ds_stage.specs.Ends.{Answers, Never, RoseIn}
use Rattle.ds_stage.proofs.Stages.{widened, rows_wider}
use Rattle.ds_stage.proofs.FaultCounts.{well_read}
use Rattle.ds_stage.proofs.source.read_rows.Goals as goal

pub returns-clause-value : goal.returns-clause-value
returns-clause-value g c =
    let held = g.F.Files.held c.args.files.now in
    let vec : List ℕ = c.args.name.now in
    let text : List ℕ = c.deref.result.now in
    let circuit : Circuit = c.args.netlist.now in
    let more : OfFile = RoseIn (g.F.Files.faults c.args.files.now) (g.F.Files.faults c.read_text.new.files) in
    let front : FrontIsHeld (held vec) 16777217 text = subst (λ (t : List ℕ). FrontIsHeld (held vec) 16777217 t) (sym c.deref.ensures.value) c.in_ok-text.ensures.ok in
    widened (then_stage (text_stage vec text) (rows_stage vec (length (columns circuit)))) (vectors_stage held vec circuit) Never more (rows_wider held vec text circuit more front) c.rows_in.result
    (subst (λ (cs : List ℕ). Answers (then_stage (text_stage vec text) (rows_stage vec (length cs))) Never c.rows_in.result) c.columns.ensures c.rows_in.ensures.value)

pub returns-clause-same_reads : goal.returns-clause-same_reads
returns-clause-same_reads g c = well_read c.rows_in.result c.in_ok-text.ensures.same_reads
