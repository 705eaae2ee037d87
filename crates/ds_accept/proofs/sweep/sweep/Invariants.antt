use Rattle.std.proofs.Common.{ℕ, ◌<◌, ◌^◌, get_or}
use Rattle.ds_accept.specs.Masks.{AreAllClosed, IsSwept}
use Rattle.ds_accept.proofs.sweep.sweep.Given as goal

abbrev pub invariant-loop-token_sum : goal.invariant-loop-token_sum
invariant-loop-token_sum l = record {
  step : IsSwept l.arcs l.events l.bound (AreAllClosed l.arcs l.events l.bound l.token_sum) l.fn.masks l.masks l.changed;
  fits : (i : ℕ) → get_or l.masks i 0 < 2 ^ 64;
}
