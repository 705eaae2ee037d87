use Rattle.std.proofs.Common.{arith, sym}
use Rattle.ds_rule.specs.Run.{Run}
use Rattle.ds_fabric.proofs.HistoryLayout.{stride-low, stride-high, width_small}
use Rattle.ds_fabric.proofs.build.stride_of.Goals as goal

pub returns-then-node-design_nodes : goal.returns-then-node-design_nodes
returns-then-node-design_nodes g c = let run : Run = c.args.run.now in
    omega (
      arith,
      c.width.ensures,
      stride-low run c.args.node (omega (arith, c.if-node-design_nodes.true, c.design_nodes.ensures)),
    )

pub returns-else-node-design_nodes : goal.returns-else-node-design_nodes
returns-else-node-design_nodes g c = let run : Run = c.args.run.now in
    sym (stride-high run c.args.node (omega (arith, c.if-node-design_nodes.false, c.design_nodes.ensures)))

pub overflow_add-result : goal.overflow_add-result
overflow_add-result g c = let run : Run = c.args.run.now in
    omega (arith, c.width.ensures, width_small run c.args.node c.requires.sound c.requires.near)
