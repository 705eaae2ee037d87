use Rattle.std.proofs.Common.{ℕ, List, length, subst, sym}
use Rattle.ds_design.specs.Groups.{AreDisjoint}
use Rattle.ds_split.specs.Grouped.{IsGroupedClustering, IsGroupedFault}
use Rattle.ds_stage.proofs.SplitStops.{cluster_stops}
use Rattle.ds_stage.proofs.split.clusters_by.Goals as goal

pub cluster_groups-requires : goal.cluster_groups-requires
cluster_groups-requires c = subst (λ (groups : List (List ℕ)). AreDisjoint (length c.args.netlist.now.registers) groups) (sym c.members.ensures) c.requires

pub returns-in-Ok : goal.returns-in-Ok
returns-in-Ok c = (
  subst (λ (groups : List (List ℕ)). IsGroupedClustering c.args.netlist.now c.args.mode groups c.in-Ok.clusters) c.members.ensures c.in-Ok.ensures.ok,
  c.in-Ok.ensures.ok_few,
)

pub returns-in-Err : goal.returns-in-Err
returns-in-Err c =
    cluster_stops c.args.file.now c.args.mode c.args.netlist.now c.args.groups.now c.in-Err.fault c.split_stop.result
    (subst (λ (groups : List (List ℕ)). IsGroupedFault c.args.netlist.now c.args.mode groups c.in-Err.fault) c.members.ensures c.in-Err.ensures.fault) c.split_stop.ensures
