use Rattle.std.proofs.Common.{◌≡◌, map, take}
use Rattle.ds_flat.specs.Keys.{net_key}
use Rattle.ds_flat.proofs.nets.NetList.to_nets.Given as goal

abbrev pub invariant-loop-key : goal.invariant-loop-key
invariant-loop-key l = l.nets.items ≡ map net_key (take l.key-index l.key-items)
