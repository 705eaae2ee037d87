use Rattle.std.proofs.Common.{ℕ, ◌≡◌, length, Some}
use Rattle.ds_accept.specs.Lowered.{AreSumsBounded, AreWalkSums, heights, sum_at}
use Rattle.ds_accept.proofs.sums.lower_all.Given as goal

abbrev pub invariant-sweeps : goal.invariant-sweeps
invariant-sweeps l = record {
  size : length l.sums.items ≡ length l.fn.sums.items;
  bounded : AreSumsBounded l.sums.items;
  walks : (from : ℕ) → AreWalkSums l.arcs from l.fn.sums.items → AreWalkSums l.arcs from l.sums.items;
  start : (from : ℕ) → sum_at l.fn.sums.items from ≡ Some 0 → sum_at l.sums.items from ≡ Some 0;
}

abbrev pub decreases-sweeps : goal.decreases-sweeps
decreases-sweeps l = heights l.sums.items
