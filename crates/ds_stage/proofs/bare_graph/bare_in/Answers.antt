use Rattle.std.proofs.Common.{ℕ, List}
use Rattle.ds_astg.specs.Read.{graph_of_lines}
use Rattle.ds_stage.specs.GraphText.{astg_text}
use Rattle.ds_stage.specs.Stages.{read_or_line, result_stage, text_stage}
use Rattle.ds_stage.specs.RateStage.{bare_stage, cyclic_stage}
use Rattle.ds_stage.specs.Ends.{Never}
use Rattle.ds_stage.proofs.Stages.{passed}
use Rattle.ds_stage.proofs.bare_graph.bare_in.Goals as goal

pub returns-clause-value : goal.returns-clause-value
returns-clause-value c =
    let file : List ℕ = c.args.name.now in
    passed (text_stage file c.args.text.now) (bare_stage file) Never c.in_ok-lines.lines c.in_ok-lines.ensures c.cyclic.result
    (passed (result_stage (read_or_line file astg_text (graph_of_lines c.in_ok-lines.lines))) (cyclic_stage file) Never c.in_ok-graph.graph c.in_ok-graph.ensures
    c.cyclic.result c.cyclic.ensures.value)
