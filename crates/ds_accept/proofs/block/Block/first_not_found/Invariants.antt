use Rattle.std.proofs.Common.{ℕ, ◌<◌, ◌+◌, get_or}
use Rattle.std.specs.List.{HoldsAt}
use Rattle.ds_accept.specs.Masks.{IsFoundBy}
use Rattle.ds_accept.proofs.block.Block.first_not_found.Given as goal

abbrev pub invariant-loop-k : goal.invariant-loop-k
invariant-loop-k l = (j : ℕ) → j < l.k → HoldsAt (λ order. IsFoundBy l.search.events l.masks order (get_or l.self.bits.items j 0)) l.search.asked.now (l.from + j)
