use Rattle.std.proofs.lemmas.Result.{err_from_is_err_and}
use Rattle.ds_stage.proofs.SplitStops.{clusters_stop, few_orders, split_stops}
use Rattle.ds_stage.proofs.split.split_groups.Goals as goal

pub clusters_by-requires : goal.clusters_by-requires
clusters_by-requires c = c.requires

pub returns-in_err-clusters : goal.returns-in_err-clusters
returns-in_err-clusters c =
    let p = err_from_is_err_and c.from_residual.result c.from_residual.ensures.1 in
    rw (p.1, p.2) (clusters_stop c.args.file.now c.args.mode c.args.netlist.now c.args.groups.now c.in_err-clusters.field-0.0 c.in_err-clusters.ensures)

pub split-requires : goal.split-requires
split-requires c = c.in_ok-clusters.ensures.0.each_once

pub returns-in-Ok : goal.returns-in-Ok
returns-in-Ok c = (
  record { clusters = c.in_ok-clusters.clusters; are = c.in_ok-clusters.ensures.0; few = c.in_ok-clusters.ensures.1; is = c.in-Ok.ensures.ok },
  few_orders c.in-Ok.latches c.edges-edges.result.now c.edges-edges.ensures.edges c.edges-edges.ensures.once c.edges-edges.ensures.few,
)

pub returns : goal.returns
returns c =
    split_stops c.args.file.now c.args.mode c.args.netlist.now c.args.groups.now c.in_ok-clusters.clusters c.in_ok-clusters.ensures.0 c.in_ok-clusters.ensures.1
    c.in-Err.fault c.split_stop.result c.in-Err.ensures.fault c.split_stop.ensures
