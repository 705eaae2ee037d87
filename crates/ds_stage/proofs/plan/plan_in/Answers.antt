use Rattle.std.proofs.Common.{ℕ, List}
use Rattle.ds_latch.specs.Node.{Split}
use Rattle.ds_astg.specs.Read.{graph_of_lines}
use Rattle.ds_stage.specs.GraphText.{astg_text}
use Rattle.ds_stage.specs.Stages.{read_or_line, result_stage, text_stage}
use Rattle.ds_stage.specs.PlanStage.{acceptable_stage, marked_stage}
use Rattle.ds_stage.specs.Ends.{Never}
use Rattle.ds_stage.proofs.Stages.{passed}
use Rattle.ds_stage.proofs.plan.plan_in.Goals as goal

pub returns : goal.returns
returns c =
    let file : List ℕ = c.args.name.now in
    let split : Split = c.args.latches in
    passed (text_stage file c.args.text.now) (marked_stage file split) Never c.in_ok-lines.lines c.in_ok-lines.ensures c.accepted_plan.result
    (passed (result_stage (read_or_line file astg_text (graph_of_lines c.in_ok-lines.lines))) (acceptable_stage file split) Never c.in_ok-graph.graph c.in_ok-graph.ensures
    c.accepted_plan.result c.accepted_plan.ensures)
