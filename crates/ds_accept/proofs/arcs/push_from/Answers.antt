use Rattle.ds_accept.proofs.ArcsBySource.{with_range}
use Rattle.ds_accept.proofs.arcs.push_from.Goals as goal

pub returns : goal.returns
returns c = rw c.in_ok-extend_from_slice.ensures.items (rw c.arcs.ensures.arcs (with_range c.args.graph.now.arcs c.args.event c.arcs_from-range.result.start c.arcs_from-range.result.end c.args.arcs.now.items c.arcs_from-range.ensures))
