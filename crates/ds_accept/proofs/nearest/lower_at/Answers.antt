use Rattle.std.proofs.Common.{List, ◌∙◌, ap, get_or, sym}
use Rattle.ds_marked.specs.declared.marked.Arc.{Arc}
use Rattle.ds_accept.specs.Lowered.{IsLowAt}
use Rattle.ds_accept.proofs.Lowering.{lowered_by}
use Rattle.ds_accept.proofs.nearest.lower_at.Goals as goal

pub returns : goal.returns
returns c =
    let arc : Arc = c.index-arcs-place.result in
    lowered_by c.args.graph.now.arcs arc (λ sums. IsLowAt sums arc) c.args.sums.now.items c.lower.new.sums.items c.lower.result
    (c.args.place, c.requires.inside, sym (c.index-arcs-place.is ∙ ap (λ (xs : List Arc). get_or xs c.args.place arc) c.arcs.ensures.arcs))
    c.lower.ensures
