use Rattle.std.proofs.Common.{ℕ, Bool, List, refl}
use Rattle.std.proofs.lemmas.Result.{err_from_is_err_and}
use Rattle.ds_latch.specs.Node.{Split}
use Rattle.ds_stage.specs.Ends.{Never, Output, output_between}
use Rattle.ds_stage.specs.GraphStage.{controller_stage, drawn_stage, wanted_stage}
use Rattle.ds_stage.specs.declared.stop.Stop.{Stop}
use Rattle.ds_stage.proofs.Stages.{stopped}
use Rattle.ds_stage.proofs.StageEnds.{ended, ends_after}
use Rattle.ds_stage.proofs.StagesLeaveNothing.{controller_nothing}
use Rattle.ds_stage.proofs.FaultCounts.{unwritten_or}
use Rattle.ds_app.proofs.graph.draw.Goals as goal

pub returns-in_err-graph-clause-value : goal.returns-in_err-graph-clause-value
returns-in_err-graph-clause-value g c =
    let file : List ℕ = c.args.file.now in
    let shake : Bool = c.args.shake in
    let s : Split = c.args.latches.now in
    let stop : Stop = c.in_err-graph.field-0.0 in
    let p = err_from_is_err_and c.from_residual.result c.from_residual.ensures.1 in
    rw (p.1, p.2) (ended (Unit {0}) (controller_stage file shake s) Never
    (output_between g.O.Sink.written g.O.Sink.faults c.args.out.now c.args.out.now) stop (controller_nothing file shake s) refl
    (stopped (wanted_stage file shake s) (drawn_stage s) Never stop c.in_err-graph.ensures))

pub returns-clause-value : goal.returns-clause-value
returns-clause-value g c =
    let file : List ℕ = c.args.file.now in
    let shake : Bool = c.args.shake in
    let s : Split = c.args.latches.now in
    let out : Output = (output_between g.O.Sink.written g.O.Sink.faults c.args.out.now c.write_graph.new.out) in
    ends_after (wanted_stage file shake s) (drawn_stage s) Never out c.in_ok-graph.graph c.in_ok-graph.ensures c.write_graph.result c.write_graph.ensures.value

pub returns-in_err-graph-clause-same_writes : goal.returns-in_err-graph-clause-same_writes
returns-in_err-graph-clause-same_writes g c = let p = err_from_is_err_and c.from_residual.result c.from_residual.ensures.1 in rw (p.1, p.2) (unwritten_or c.in_err-graph.field-0.0 refl)

pub returns-clause-same_writes : goal.returns-clause-same_writes
returns-clause-same_writes g c = c.write_graph.ensures.same_writes
