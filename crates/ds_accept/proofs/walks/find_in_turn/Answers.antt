use Rattle.std.proofs.Common.{ℕ, List, subst, sym, Contains}
use Rattle.ds_accept.proofs.walks.find_in_turn.Goals as goal

pub find_walks-requires-clause-order : goal.find_walks-requires-clause-order
find_walks-requires-clause-order c = λ v low. subst (λ (xs : List ℕ). Contains xs v) (sym c.as_slice.ensures.value)
    (c.in_ok-order.ensures v (rw c.events.ensures.events low))
