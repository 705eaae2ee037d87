use Rattle.std.proofs.Common.{◌≡◌, ℕ, ◌<◌, ◌≤◌, ◌^◌, [], length, get_or}
use Rattle.ds_run.proofs.lengths.lengths_of.Given as goal

abbrev pub invariant-loop-i : goal.invariant-loop-i
invariant-loop-i l = record {
  size : length l.lengths.items ≡ l.count;
  set : (k : ℕ) → k < l.i → get_or l.lengths.items k 0 ≡ length (get_or l.bits k []);
  clear : (k : ℕ) → l.i ≤ k → get_or l.lengths.items k 0 ≡ 0;
  few : (k : ℕ) → get_or l.lengths.items k 0 < 2 ^ 32;
}
