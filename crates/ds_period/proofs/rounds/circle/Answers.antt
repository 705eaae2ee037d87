use Rattle.std.proofs.Common.{List, length, subst, sym}
use Rattle.ds_rank.specs.declared.edge.Edge.{Edge}
use Rattle.ds_rank.specs.Order.{HasEdge}
use Rattle.ds_period.specs.Parents.{AreParentEdges}
use Rattle.ds_period.specs.Search.{IsParent}
use Rattle.ds_period.proofs.Grow.{part_ends}
use Rattle.ds_period.proofs.CycleByRanks.{found_by}
use Rattle.ds_period.proofs.rounds.circle.Goals as goal

pub circle_along-requires-clause-ends : goal.circle_along-requires-clause-ends
circle_along-requires-clause-ends c =
    let are : AreParentEdges c.args.arcs.now c.args.parent.now (length c.args.parent.now) c.as_slice-2.result.now =
    subst (λ (es : List Edge). AreParentEdges c.args.arcs.now c.args.parent.now (length c.args.parent.now) es) (sym c.as_slice-2.ensures.value) c.in_ok-edges.ensures.edges in
    part_ends c.args.arcs.now c.args.parent.now c.as_slice-2.result.now c.requires.ends c.requires.places are.from

pub returns : goal.returns
returns c =
    let are : AreParentEdges c.args.arcs.now c.args.parent.now (length c.args.parent.now) c.as_slice-2.result.now =
    subst (λ (es : List Edge). AreParentEdges c.args.arcs.now c.args.parent.now (length c.args.parent.now) es) (sym c.as_slice-2.ensures.value) c.in_ok-edges.ensures.edges in
    found_by (HasEdge c.as_slice-2.result.now) (IsParent c.args.arcs.now c.args.parent.now (length c.args.parent.now)) (length c.args.parent.now)
    are.from are.into c.circle_along.result c.circle_along.ensures
