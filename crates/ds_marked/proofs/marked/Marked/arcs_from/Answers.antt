use Rattle.std.proofs.Common.{rules, of_calls, ◌≡◌, ℕ, List, sym, subst, ltb, leb}
use Rattle.std.specs.List.Sorted.{IsNonDecreasingBy}
use Rattle.std.proofs.lemmas.List.Sorted.{IsPartitionedBy-ltb, IsPartitionedBy-leb, IsPartitionPoint-from_clause}
use Rattle.ds_marked.specs.Graph.{IsRangeFrom}
use Rattle.ds_marked.specs.declared.marked.Arc.{Arc}
use Rattle.ds_marked.proofs.ArcComparison.{range_from, sources_rise}
use Rattle.ds_marked.proofs.marked.Marked.arcs_from.Goals as goal

pub returns : goal.returns
returns c =
    let v : ℕ = c.args.event in
    let arcs : List Arc = c.arcs-arcs.result.now in
    let same : arcs ≡ c.args.self.now.arcs = c.arcs-arcs.ensures.arcs in
    let low = c.partition_point-start in
    let high = c.partition_point-end in
    let rise : IsNonDecreasingBy (λ (arc : Arc). arc.source) arcs =
    subst (IsNonDecreasingBy (λ (arc : Arc). arc.source)) (sym same) (sources_rise c.args.self.now.arcs c.arcs-arcs.ensures.kept.sorted) in
    subst (λ (arcs : List Arc). IsRangeFrom arcs v low.result high.result) same (range_from arcs v low.result high.result
    low.ensures.bound high.ensures.bound
    (IsPartitionPoint-from_clause (λ (arc : Arc). ltb arc.source v) arcs low.result low.ensures.partitioned (IsPartitionedBy-ltb (λ (arc : Arc). arc.source) arcs v rise) (λ a r f k. search (rules, of_calls)))
    (IsPartitionPoint-from_clause (λ (arc : Arc). leb arc.source v) arcs high.result high.ensures.partitioned (IsPartitionedBy-leb (λ (arc : Arc). arc.source) arcs v rise) (λ a r f k. search (rules, of_calls))))
