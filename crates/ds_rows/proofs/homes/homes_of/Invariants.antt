use Rattle.std.proofs.Common.{◌≡◌, ◌<◌, ℕ, length}
use Rattle.ds_rows.specs.Homes.{AreHoused}
use Rattle.ds_rows.proofs.homes.homes_of.Given as goal

abbrev pub invariant-loop-i : goal.invariant-loop-i
invariant-loop-i l = record {
  one_each : length l.homes.items ≡ length l.latches.circuit.registers;
  housed : (j : ℕ) → j < l.i → AreHoused l.latches l.homes.items j;
}
