use Rattle.std.proofs.Common.{ℕ, ◌<◌, ◌≤◌, length, get_or}
use Rattle.ds_rank.proofs.cycle.least.Given as goal

abbrev pub invariant-loop-i : goal.invariant-loop-i
invariant-loop-i l = record {
  inside : l.best < length l.nodes;
  least : (k : ℕ) → k < l.i → get_or l.nodes l.best 0 ≤ get_or l.nodes k 0;
}
