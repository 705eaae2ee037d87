use Rattle.std.proofs.Common.{◌≡◌, get_or, map, take}
use Rattle.ds_split.proofs.nets.data_nets.Given as goal

abbrev pub invariant-loop-register : goal.invariant-loop-register
invariant-loop-register l =
    l.nets.items ≡ map (λ r. get_or (map (λ r. r.data_net) l.registers) r 0) (take l.register-index l.cluster)
