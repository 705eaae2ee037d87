use Rattle.std.proofs.Common.{◌+◌, ◌*◌, ◌≤◌, List, length, map, subst, arith}
use Rattle.std.proofs.lemmas.List.{length-map}
use Rattle.std.proofs.lemmas.List.Sorted.{length_permutation}
use Rattle.std.specs.List.Sorted.{IsPermutation}
use Rattle.ds_latch.specs.Node.{nodes}
use Rattle.ds_rule.specs.declared.table_run.DataEdge.{DataEdge}
use Rattle.ds_run.specs.Tokened.{tokened}
use Rattle.ds_run.proofs.EdgeTokens.{are_edges}
use Rattle.ds_run.proofs.edges.edges_of.Goals as goal
use Rattle.ds_run.proofs.edges.edges_of.Goals.{In_ok-sort_by_consumer}

same : (c : In_ok-sort_by_consumer)
    → IsPermutation (map tokened c.edges.result.now) c.sort_by_consumer.new.edges.items
same c = subst (λ (es : List DataEdge). IsPermutation es c.sort_by_consumer.new.edges.items)
    c.in_ok-edges.ensures c.in_ok-sort_by_consumer.ensures.permuted

pub returns-clause-ok : goal.returns-clause-ok
returns-clause-ok c = are_edges c.args.latches.now c.edges.result.now c.edges.ensures.edges
    c.edges.ensures.once c.sort_by_consumer.new.edges.items (same c)
    c.in_ok-sort_by_consumer.ensures.rising

pub returns-clause-few : goal.returns-clause-few
returns-clause-few c =
    let few : 2 * nodes c.args.latches.now + 2 * length c.edges.result.now ≤ 1048576
    = c.edges.ensures.few in
    omega (
      arith,
      few,
      length_permutation (map tokened c.edges.result.now) c.sort_by_consumer.new.edges.items
          (same c),
      length-map c.edges.result.now tokened,
    )
