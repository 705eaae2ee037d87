use Rattle.std.proofs.Common.{◌+◌, ◌*◌, ◌<◌, ◌≤◌, List, length, get_or, arith}
use Rattle.ds_base.proofs.ListLemmas.{get_or-self}
use Rattle.ds_latch.specs.Node.{Split, nodes}
use Rattle.ds_latch.specs.declared.latches.Edge.{Edge}
use Rattle.ds_control.proofs.Required.{edge_inside}
use Rattle.ds_control.proofs.arcs.arcs.Goals as goal

pub push_edge_arcs-requires-clause-few : goal.push_edge_arcs-requires-clause-few
push_edge_arcs-requires-clause-few c k d inside =
    let s : Split = c.args.latches.now in
    let edges : List Edge = c.edges-edges.result.now in
    let e : Edge = get_or edges k d in
    let both : (e.producer < nodes s) × (e.consumer < nodes s) = edge_inside s edges c.edges-edges.ensures.edges e (k, inside, get_or-self edges k d inside) in
    let few : 2 * nodes s + 2 * length edges ≤ 1048576 = c.edges-edges.ensures.few in
    (omega (few, both.0, arith), omega (few, both.1, arith))
