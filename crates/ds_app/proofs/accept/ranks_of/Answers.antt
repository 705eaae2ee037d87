use Rattle.std.proofs.Common.{subst}
use Rattle.ds_marked.specs.Graph.{Graph}
use Rattle.ds_rank.specs.Rank.{IsRankFault}
use Rattle.ds_rank.specs.declared.fault.RankFault.{RankFault}
use Rattle.ds_rank.specs.declared.fault.RankFault.TheVariants.{Cycle}
use Rattle.ds_app.proofs.NoTokenFreeCycle.{no_cycle}
use Rattle.ds_app.proofs.accept.ranks_of.Goals as goal

pub unreachable-requires : goal.unreachable-requires
unreachable-requires c =
    let g : Graph = c.args.plan.now.graph in
    let fault : IsRankFault g (Cycle c.in-Err-Cycle.field-0-0) =
    subst (λ (f : RankFault). IsRankFault g f) c.in-Err-Cycle.field-0-is
    (subst (λ (h : Graph). IsRankFault h c.in-Err-Cycle.field-0) c.graph.ensures.graph c.in-Err-Cycle.ensures.fault) in
    no_cycle g c.graph.ensures.accepted.live c.in-Err-Cycle.field-0-0 fault
