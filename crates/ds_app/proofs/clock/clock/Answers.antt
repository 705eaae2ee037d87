use Rattle.std.proofs.Common.{ℕ, List, Err, refl, ◌∙◌}
use Rattle.std.proofs.lemmas.Result.{err_from_is_err_and}
use Rattle.ds_outside.specs.Held.{Held}
use Rattle.ds_outside.specs.declared.files.Which.{Which}
use Rattle.ds_design.specs.Circuit.{Circuit}
use Rattle.ds_design.specs.Rows.{Rows}
use Rattle.ds_design.specs.Trace.{IsTrace}
use Rattle.ds_stage.specs.Stage.{OfFile}
use Rattle.ds_stage.specs.Stages.{netlist_stage}
use Rattle.ds_app.specs.JobStages.{clock_stage}
use Rattle.ds_stage.specs.Ends.{Output, RoseIn, output_between}
use Rattle.ds_stage.proofs.StageEnds.{ended_first, ends_after}
use Rattle.ds_stage.proofs.StagesLeaveNothing.{netlist_nothing}
use Rattle.ds_stage.proofs.Streamed.{streamed_since}
use Rattle.ds_app.proofs.LentNames.{clock_ends}
use Rattle.ds_stage.proofs.FaultCounts.{unwritten_or}
use Rattle.ds_app.proofs.FaultCountsSince.{well_read_since}
use Rattle.ds_app.proofs.clock.clock.Goals as goal

pub returns-in_err-netlist-clause-value : goal.returns-in_err-netlist-clause-value
returns-in_err-netlist-clause-value g c =
    let held : List ℕ → Held = g.F.Files.held c.args.files.now in
    let net : List ℕ = c.as_str-net.result.now in
    let vec : List ℕ = c.as_str-vec.result.now in
    let more : OfFile = RoseIn (g.F.Files.faults c.args.files.now) (g.F.Files.faults c.read_netlist.new.files) in
    let p = err_from_is_err_and c.from_residual.result c.from_residual.ensures.1 in
    let out : Output = (output_between g.O.Sink.written g.O.Sink.faults c.args.out.now c.args.out.now) in
    rw (p.1, p.2) (clock_ends held more out (Err c.in_err-netlist.field-0.0) c.args.job.now _ _ c.as_str-net.ensures c.as_str-vec.ensures
    (ended_first (Unit {0}) (netlist_stage held net) (clock_stage held vec) more out c.in_err-netlist.field-0.0 (netlist_nothing held net) refl c.in_err-netlist.ensures.value))

pub returns-clause-value : goal.returns-clause-value
returns-clause-value g c =
    let held : List ℕ → Held = g.F.Files.held c.args.files.now in
    let net : List ℕ = c.as_str-net.result.now in
    let vec : List ℕ = c.as_str-vec.result.now in
    let now : Which → List ℕ → ℕ = g.F.Files.faults c.write_clocked.new.files in
    let more : OfFile = RoseIn (g.F.Files.faults c.args.files.now) now in
    let circuit : Circuit = c.in_ok-netlist.netlist in
    let out : Output = (output_between g.O.Sink.written g.O.Sink.faults c.args.out.now c.write_clocked.new.out) in
    clock_ends held more out c.write_clocked.result c.args.job.now _ _ c.as_str-net.ensures c.as_str-vec.ensures
    (ends_after (netlist_stage held net) (clock_stage held vec) more out circuit c.in_ok-netlist.ensures.value c.write_clocked.result
    (streamed_since held (g.F.Files.held c.read_netlist.new.files) vec circuit 4294967295 (λ (rows : Rows). IsTrace circuit rows.rows)
    (g.F.Files.faults c.args.files.now) (g.F.Files.faults c.read_netlist.new.files) now c.in_ok-netlist.ensures.same_held c.in_ok-netlist.ensures.never_falls
    out c.write_clocked.result c.write_clocked.ensures.value))

pub returns-in_err-netlist-clause-same_held : goal.returns-in_err-netlist-clause-same_held
returns-in_err-netlist-clause-same_held g c = c.in_err-netlist.ensures.same_held

pub returns-clause-same_held : goal.returns-clause-same_held
returns-clause-same_held g c = c.write_clocked.ensures.same_held ∙ c.in_ok-netlist.ensures.same_held

pub returns-in_err-netlist-clause-same_reads : goal.returns-in_err-netlist-clause-same_reads
returns-in_err-netlist-clause-same_reads g c = let p = err_from_is_err_and c.from_residual.result c.from_residual.ensures.1 in rw (p.1, p.2) (c.in_err-netlist.ensures.same_reads)

pub returns-in_err-netlist-clause-same_writes : goal.returns-in_err-netlist-clause-same_writes
returns-in_err-netlist-clause-same_writes g c = let p = err_from_is_err_and c.from_residual.result c.from_residual.ensures.1 in rw (p.1, p.2) (unwritten_or c.in_err-netlist.field-0.0 refl)

pub returns-clause-same_reads : goal.returns-clause-same_reads
returns-clause-same_reads g c = well_read_since _ c.write_clocked.result c.in_ok-netlist.ensures.same_reads c.write_clocked.ensures.same_reads

pub returns-clause-same_writes : goal.returns-clause-same_writes
returns-clause-same_writes g c = c.write_clocked.ensures.same_writes
