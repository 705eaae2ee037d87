use Rattle.std.proofs.Common.{◌≡◌, ◌++◌, take}
use Rattle.std.specs.List.{flat_map}
use Rattle.ds_shake.specs.Expansion.{handshake_arcs}
use Rattle.ds_shake.proofs.arcs.push_handshakes.Given as goal

abbrev pub invariant-loop-handshake : goal.invariant-loop-handshake
invariant-loop-handshake l = l.arcs.items
    ≡ l.initial.arcs.items ++ flat_map (handshake_arcs l.frame.nodes l.frame.slack) (take l.handshake-index l.all)
