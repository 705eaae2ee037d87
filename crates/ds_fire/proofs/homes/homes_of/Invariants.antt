use Rattle.std.proofs.Common.{◌≡◌, ◌<◌, ℕ, length}
use Rattle.ds_latch.specs.declared.node.Node.TheVariants.{In, Slave}
use Rattle.ds_fire.specs.Feeds.{AreSourceNetsHoused}
use Rattle.ds_fire.proofs.homes.homes_of.Given as goal

abbrev pub invariant-loop-i : goal.invariant-loop-i
invariant-loop-i l = record {
  one_each : length l.homes.items ≡ length l.latches.circuit.nets;
  first : AreSourceNetsHoused l.latches l.homes.items In;
  slaves : (j : ℕ) → j < l.i → AreSourceNetsHoused l.latches l.homes.items (Slave j);
}
