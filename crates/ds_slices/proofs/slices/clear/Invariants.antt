use Rattle.std.proofs.Common.{◌≡◌, ℕ, ◌<◌, length, get_or}
use Rattle.ds_slices.proofs.slices.clear.Given as goal

abbrev pub invariant-loop-net : goal.invariant-loop-net
invariant-loop-net l = record {
  same : length l.words ≡ length l.initial.words;
  zero_so_far : (k : ℕ) → k < l.net → get_or l.words k 0 ≡ 0;
}
