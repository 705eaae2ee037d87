use Rattle.std.proofs.Common.{◌<◌, ℕ, List, length, refl, sym, ◌∙◌, subst, arith}
use Rattle.ds_design.specs.Circuit.{Circuit}
use Rattle.ds_split.specs.Grouped.{BelongTogether, IsGroupedClustering}
use Rattle.ds_split.proofs.Groupings.{grouping}
use Rattle.ds_split.proofs.grouping.cluster_groups.Goals as goal

pub returns-then-len-most-clause-fault : goal.returns-then-len-most-clause-fault
returns-then-len-most-clause-fault c =
    let h : c.most.result < c.len.result = c.if-len-most.true in (
      refl,
      (
        c.in_ok-clusters.clusters.items,
        subst (λ (d : Circuit). IsGroupedClustering d c.args.mode c.args.groups.now c.in_ok-clusters.clusters.items) c.design.ensures.design
            (grouping (BelongTogether c.design.result.now c.args.mode c.args.groups.now) (length c.design.result.now.registers) c.in_ok-clusters.clusters.items c.in_ok-clusters.ensures),
        omega (arith, c.most.ensures, c.len.ensures),
      ),
    )

pub returns-clause-ok : goal.returns-clause-ok
returns-clause-ok c =
    subst (λ (xs : List (List ℕ)). IsGroupedClustering c.args.netlist.now c.args.mode c.args.groups.now xs) (sym (c.of-2.ensures ∙ c.of.ensures))
    (subst (λ (d : Circuit). IsGroupedClustering d c.args.mode c.args.groups.now c.in_ok-clusters.clusters.items) c.design.ensures.design
    (grouping (BelongTogether c.design.result.now c.args.mode c.args.groups.now) (length c.design.result.now.registers) c.in_ok-clusters.clusters.items c.in_ok-clusters.ensures))
