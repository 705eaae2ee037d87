use Rattle.std.proofs.Common.{ℕ, List, Option, ◌<◌, ◌+◌, subst, sym}
use Rattle.ds_marked.specs.Into.{Enters, IsNextInto}
use Rattle.ds_marked.specs.declared.marked.Arc.{Arc}
use Rattle.ds_marked.proofs.ArcsIntoEvent.{left, left_falls}
use Rattle.ds_accept.proofs.knots.Knots.take_sources.Goals as goal

pub sources-smaller : goal.sources-smaller
sources-smaller c =
    let arcs : List Arc = c.args.graph.now.arcs in
    let here : Enters arcs c.args.event c.in-Some.arc = c.sources.invariant c.in-Some.arc c.in-Some.is in
    subst (λ (next : Option ℕ). left arcs c.into_next-next.result < left arcs next) (sym c.in-Some.is)
    (left_falls arcs c.args.event c.in-Some.arc c.into_next-next.result here (c.into_next-next.ensures c.args.event here))

pub sources-preserved : goal.sources-preserved
sources-preserved c = λ k is.
    let arcs : List Arc = c.args.graph.now.arcs in
    let here : Enters arcs c.args.event c.in-Some.arc = c.sources.invariant c.in-Some.arc c.in-Some.is in
    (subst (IsNextInto arcs c.args.event (c.in-Some.arc + 1)) is (c.into_next-next.ensures c.args.event here)).1
