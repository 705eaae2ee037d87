use Rattle.std.proofs.Common.{◌≡◌, ◌++◌, map, take}
use Rattle.std.specs.List.{flat_map}
use Rattle.ds_netlist.proofs.lists.used_nets.Given as goal

abbrev pub invariant-loop-table : goal.invariant-loop-table
invariant-loop-table l = l.nets.items ≡ flat_map (λ t. t.table.inputs) (take l.table-index l.table-items)

abbrev pub invariant-loop-register : goal.invariant-loop-register
invariant-loop-register l = l.nets.items
    ≡ flat_map (λ t. t.table.inputs) l.fn.design.tables ++ map (λ r. r.data_net) (take l.register-index l.register-items)
