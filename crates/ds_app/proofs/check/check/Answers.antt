use Rattle.std.proofs.Common.{ℕ, List, Err, refl, subst}
use Rattle.std.proofs.lemmas.Result.{err_from_is_err_and}
use Rattle.ds_outside.specs.Held.{Held}
use Rattle.ds_design.specs.Circuit.{Circuit}
use Rattle.ds_stage.specs.Stage.{OfFile, then_stage}
use Rattle.ds_stage.specs.Stages.{netlist_stage, report_stage}
use Rattle.ds_stage.specs.Ends.{Ends, Never, Output, RoseIn, output_between}
use Rattle.ds_stage.proofs.Stages.{stopped}
use Rattle.ds_stage.proofs.StageEnds.{ended, ends_after, ends_more}
use Rattle.ds_app.proofs.LeftAlone.{check_nothing, report_nothing}
use Rattle.ds_stage.proofs.FaultCounts.{unwritten_or, well_read}
use Rattle.ds_app.proofs.check.check.Goals as goal

pub returns-in_err-netlist-clause-value : goal.returns-in_err-netlist-clause-value
returns-in_err-netlist-clause-value g c =
    let held : List ℕ → Held = g.F.Files.held c.args.files.now in
    let net : List ℕ = c.as_str.result.now in
    let more : OfFile = RoseIn (g.F.Files.faults c.args.files.now) (g.F.Files.faults c.read_netlist.new.files) in
    let p = err_from_is_err_and c.from_residual.result c.from_residual.ensures.1 in
    let out : Output = (output_between g.O.Sink.written g.O.Sink.faults c.args.out.now c.args.out.now) in
    rw (p.1, p.2) (subst (λ (n : List ℕ). Ends {A = Unit {0}} (then_stage (netlist_stage held n) report_stage) more out (Err c.in_err-netlist.field-0.0)) c.as_str.ensures
    (ended (Unit {0}) (then_stage (netlist_stage held net) report_stage) more out c.in_err-netlist.field-0.0 (check_nothing held net) refl
    (stopped (netlist_stage held net) report_stage more c.in_err-netlist.field-0.0 c.in_err-netlist.ensures.value)))

pub returns-clause-value : goal.returns-clause-value
returns-clause-value g c =
    let held : List ℕ → Held = g.F.Files.held c.args.files.now in
    let net : List ℕ = c.as_str.result.now in
    let more : OfFile = RoseIn (g.F.Files.faults c.args.files.now) (g.F.Files.faults c.read_netlist.new.files) in
    let circuit : Circuit = c.in_ok-netlist.netlist in
    let out : Output = (output_between g.O.Sink.written g.O.Sink.faults c.args.out.now c.write_report.new.out) in
    subst (λ (n : List ℕ). Ends {A = Unit {0}} (then_stage (netlist_stage held n) report_stage) more out c.write_report.result) c.as_str.ensures
    (ends_after (netlist_stage held net) report_stage more out circuit c.in_ok-netlist.ensures.value c.write_report.result
    (ends_more (report_stage circuit) Never more out (report_nothing circuit) (λ line none. absurd none) c.write_report.result c.write_report.ensures.value))

pub returns-in_err-netlist-clause-same_held : goal.returns-in_err-netlist-clause-same_held
returns-in_err-netlist-clause-same_held g c = c.in_err-netlist.ensures.same_held

pub returns-clause-same_held : goal.returns-clause-same_held
returns-clause-same_held g c = c.in_ok-netlist.ensures.same_held

pub returns-in_err-netlist-clause-same_reads : goal.returns-in_err-netlist-clause-same_reads
returns-in_err-netlist-clause-same_reads g c = let p = err_from_is_err_and c.from_residual.result c.from_residual.ensures.1 in rw (p.1, p.2) (c.in_err-netlist.ensures.same_reads)

pub returns-clause-same_reads : goal.returns-clause-same_reads
returns-clause-same_reads g c = well_read c.write_report.result c.in_ok-netlist.ensures.same_reads

pub returns-in_err-netlist-clause-same_writes : goal.returns-in_err-netlist-clause-same_writes
returns-in_err-netlist-clause-same_writes g c = let p = err_from_is_err_and c.from_residual.result c.from_residual.ensures.1 in rw (p.1, p.2) (unwritten_or c.in_err-netlist.field-0.0 refl)

pub returns-clause-same_writes : goal.returns-clause-same_writes
returns-clause-same_writes g c = c.write_report.ensures.same_writes
