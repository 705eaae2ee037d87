use Rattle.std.proofs.Common.{ℕ, List, ap, arith, length}
use Rattle.ds_rule.specs.Run.{Run}
use Rattle.ds_rule.specs.declared.table_run.DataEdge.{DataEdge}
use Rattle.ds_fabric.proofs.EdgeRanges.{stops, edge_same}
use Rattle.ds_fabric.proofs.index.skip.Goals as goal

pub returns-then-index-node : goal.returns-then-index-node
returns-then-index-node g c = let run : Run = c.args.run.now in let i : ℕ = c.loop-i.i in
    stops run c.args.node i c.requires.sound
    (omega (
      arith,
      c.loop-i-test.true,
      ap (λ (xs : List DataEdge). length xs) c.requires.edges,
    )) c.loop-i.invariant
    (omega (
      arith,
      c.if-index-node.true,
      c.index.ensures,
      ap (λ (x : DataEdge). x.consumer)
          (edge_same run c.args.edges.now i c.index-edges-i.result c.requires.edges c.loop-i-test.true),
    ))
