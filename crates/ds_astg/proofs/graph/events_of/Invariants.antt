use Rattle.std.proofs.Common.{◌≡◌, take}
use Rattle.ds_astg.specs.Read.{all_events}
use Rattle.ds_astg.proofs.graph.events_of.Given as goal

abbrev pub invariant-loop-i : goal.invariant-loop-i
invariant-loop-i l = l.events ≡ all_events (take l.i l.signals.names) (take l.i l.signals.roles)
