use Rattle.std.proofs.Common.{◌≡◌, List, [], ℕ, length, ◌∙◌}
use Rattle.ds_split.proofs.Keyed.{fault_by_mode, none_disjoint, ok_by_mode}
use Rattle.ds_split.proofs.grouping.cluster.Goals as goal

pub cluster_groups-requires : goal.cluster_groups-requires
cluster_groups-requires c = none_disjoint (length c.args.netlist.now.registers) c.as_slice.result.now (c.as_slice.ensures ∙ c.new-none.ensures)

pub returns-clause-ok : goal.returns-clause-ok
returns-clause-ok c = ok_by_mode c.args.netlist.now c.args.mode c.as_slice.result.now (c.as_slice.ensures ∙ c.new-none.ensures) c.cluster_groups.result c.cluster_groups.ensures.ok

pub returns-clause-fault : goal.returns-clause-fault
returns-clause-fault c = fault_by_mode c.args.netlist.now c.args.mode c.as_slice.result.now (c.as_slice.ensures ∙ c.new-none.ensures) c.cluster_groups.result c.cluster_groups.ensures.fault
