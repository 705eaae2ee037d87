use Rattle.std.proofs.Common.{◌≡◌, take}
use Rattle.ds_flat.proofs.ports.Ports.to_ids.Given as goal

abbrev pub invariant-loop-number : goal.invariant-loop-number
invariant-loop-number l = l.ids.items ≡ take l.number-index l.number-items
