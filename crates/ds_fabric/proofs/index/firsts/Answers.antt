use Rattle.std.proofs.Common.{◌≡◌, ◌+◌, ◌∙◌, ℕ, List, ap, arith, length}
use Rattle.ds_rule.specs.Run.{Run}
use Rattle.ds_rule.specs.declared.table_run.DataEdge.{DataEdge}
use Rattle.ds_fabric.proofs.EdgeRanges.{firsts_more}
use Rattle.ds_fabric.proofs.index.firsts.Goals as goal

pub overflow_add-node-end : goal.overflow_add-node-end
overflow_add-node-end g c = omega (arith, c.requires.few, c.nodes-node-end.ensures)

pub loop-node-init : goal.loop-node-init
loop-node-init g c = record {
  long = ap (λ (xs : List ℕ). length xs) c.new-firsts.ensures.items;
  each = λ x h. absurd (omega arith);
  near = omega arith;
  passed = λ k h. absurd (omega arith);
}

pub skip-at-requires-clause-edges : goal.skip-at-requires-clause-edges
skip-at-requires-clause-edges g c = c.edges-edges.ensures

pub skip-at-requires-clause-passed : goal.skip-at-requires-clause-passed
skip-at-requires-clause-passed g c = (
  omega (
    arith,
    c.loop-node.invariant.near,
    ap (λ (xs : List DataEdge). length xs) c.edges-edges.ensures,
  ),
  c.loop-node.invariant.passed,
)

pub loop-node-preserved : goal.loop-node-preserved
loop-node-preserved g c = let run : Run = c.args.run.now in let inv = c.loop-node.invariant in
    let (long, each, near, passed) = firsts_more run c.loop-node.node c.skip-at.result c.loop-node.firsts.items
    c.push.new.self.items inv.long inv.each c.skip-at.ensures c.in_ok-push.ensures.items in
    record { long = long; each = each; near = near; passed = passed }

pub returns : goal.returns
returns g c = let inv = c.loop-node.invariant in
    let end : c.loop-node.node ≡ c.args.run.now.nodes + 1 =
    omega (arith, c.loop-node-test.false, c.loop-node.auto.node-end, c.nodes-node-end.ensures) in
    record {
      long = inv.long ∙ end;
      each = λ l h. inv.each l (omega (arith, end, h));
    }
