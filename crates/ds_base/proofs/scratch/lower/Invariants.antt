use Rattle.std.proofs.Common.{◌≡◌, ◌-◌, ◌<◌, ◌≤◌, ℕ, get_or}
use Rattle.ds_base.proofs.scratch.lower.Given as goal

abbrev pub invariant-loop-i : goal.invariant-loop-i
invariant-loop-i l = record {
  done : (s : ℕ) → s < l.i → get_or l.bytes s 0 ≡ get_or l.fn.bytes s 0 - l.by;
  rest : (s : ℕ) → l.i ≤ s → get_or l.bytes s 0 ≡ get_or l.fn.bytes s 0;
}
