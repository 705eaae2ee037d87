use Rattle.std.proofs.Common.{◌≡◌, ◌++◌, take}
use Rattle.std.specs.List.{flat_map}
use Rattle.ds_shake.specs.Expansion.{handshake_events}
use Rattle.ds_shake.proofs.events.push_handshakes.Given as goal

abbrev pub invariant-loop-handshake : goal.invariant-loop-handshake
invariant-loop-handshake l = l.events ≡ l.initial.events ++ flat_map handshake_events (take l.handshake-index l.all)
