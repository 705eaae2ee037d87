use Rattle.ds_split.proofs.BusKeys.{HaveBuses}
use Rattle.ds_split.proofs.register_keys.by_bus.Given as goal

abbrev pub invariant-loop-register : goal.invariant-loop-register
invariant-loop-register l = HaveBuses l.design l.register-index l.keys.items l.buses
