-- From one event to another there is one required order at most.
use Rattle.std.proofs.Common.{◌≡◌, ℕ, refl, arith, ap}
use Rattle.ds_latch.specs.Node.{Split}
use Rattle.ds_latch.specs.Order.{IsRequired, opens_first, closes_before_next, after_producer, before_reuse, open_tokens, close_tokens}
use Rattle.ds_latch.proofs.OrderTokens.{edge_differs, same_node}

-- two required orders whose ends are equal have the same tokens
orders_agree : (s : Split) (u v t x y t' : ℕ) → IsRequired s u v t → IsRequired s x y t' → u ≡ x → v ≡ y → t ≡ t'
orders_agree s _ _ _ _ _ _ (opens_first n is_n) (opens_first m is_m) e f = refl
orders_agree s _ _ _ _ _ _ (opens_first n is_n) (closes_before_next m is_m) e f = absurd (omega (arith, e))
orders_agree s _ _ _ _ _ _ (opens_first n is_n) (after_producer p c edge) e f = absurd (omega (arith, f))
orders_agree s _ _ _ _ _ _ (opens_first n is_n) (before_reuse p c edge) e f = absurd (omega (arith, e))
orders_agree s _ _ _ _ _ _ (closes_before_next n is_n) (opens_first m is_m) e f = absurd (omega (arith, e))
orders_agree s _ _ _ _ _ _ (closes_before_next n is_n) (closes_before_next m is_m) e f = refl
orders_agree s _ _ _ _ _ _ (closes_before_next n is_n) (after_producer p c edge) e f = absurd (omega (arith, e))
orders_agree s _ _ _ _ _ _ (closes_before_next n is_n) (before_reuse p c edge) e f = absurd (edge_differs s p c edge (omega (arith, e, f)))
orders_agree s _ _ _ _ _ _ (after_producer p c edge) (opens_first m is_m) e f = absurd (omega (arith, f))
orders_agree s _ _ _ _ _ _ (after_producer p c edge) (closes_before_next m is_m) e f = absurd (omega (arith, e))
orders_agree s _ _ _ _ _ _ (after_producer p c edge) (after_producer q d other) e f = ap open_tokens (same_node p q (omega (arith, e)))
orders_agree s _ _ _ _ _ _ (after_producer p c edge) (before_reuse q d other) e f = absurd (omega (arith, e))
orders_agree s _ _ _ _ _ _ (before_reuse p c edge) (opens_first m is_m) e f = absurd (omega (arith, e))
orders_agree s _ _ _ _ _ _ (before_reuse p c edge) (closes_before_next m is_m) e f = absurd (edge_differs s p c edge (omega (arith, e, f)))
orders_agree s _ _ _ _ _ _ (before_reuse p c edge) (after_producer q d other) e f = absurd (omega (arith, e))
orders_agree s _ _ _ _ _ _ (before_reuse p c edge) (before_reuse q d other) e f = ap (close_tokens s) (same_node p q (omega (arith, f)))

pub one_order : (s : Split) (u v t t' : ℕ) → IsRequired s u v t → IsRequired s u v t' → t ≡ t'
one_order s u v t t' one other = orders_agree s u v t u v t' one other refl refl
