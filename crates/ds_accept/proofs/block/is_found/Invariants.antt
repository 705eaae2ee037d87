use Rattle.std.proofs.Common.{ℕ, ◌<◌}
use Rattle.ds_accept.specs.Masks.{IsReachedAt}
use Rattle.ds_accept.proofs.block.is_found.Given as goal

abbrev pub invariant-loop-token_sum : goal.invariant-loop-token_sum
invariant-loop-token_sum l = (j : ℕ) → j < l.token_sum → ¬ IsReachedAt l.events l.masks j l.order.target l.bit
