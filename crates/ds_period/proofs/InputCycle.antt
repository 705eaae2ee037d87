-- Walks between the events of `IN` are a cycle of each graph that gives the required orders.
use Rattle.std.proofs.Common.{◌≡◌, ◌⊎◌, ◌+◌, ℕ, List, [], ◌∷◌, ◌++◌, arith, inl, inr, refl, subst, sym}
use Rattle.ds_marked.specs.Graph.{Graph, IsArc, Walk, stay, along}
use Rattle.ds_latch.specs.Node.{Split}
use Rattle.ds_latch.specs.Plan.{IsPlan}
use Rattle.ds_latch.specs.declared.node.Node.TheVariants.{In}
use Rattle.ds_latch.specs.Order.{opens_first, closes_before_next}
use Rattle.ds_rank.specs.Order.{IsWalk}
use Rattle.ds_rank.proofs.Turn.{walk_join}
use Rattle.ds_period.specs.Timing.{HasCycle, Leads}
use Rattle.ds_period.specs.Controller.{PlansHavePeriods}

-- an arc leads
leads : (g : Graph) (u v t : ℕ) → IsArc g u v t → Leads g u v
leads g u v t (k, arc, inside, is, (source, target, tokens)) = (k, arc, inside, is, (source, target))

-- a walk with the sum of its tokens goes along arcs, unless it stays where it is
walks : (g : Graph) (u v sum : ℕ) → Walk g u v sum → (u ≡ v) ⊎ ((events : List ℕ) × IsWalk (Leads g) u events v)
walks g _ _ _ stay = inl refl
walks g u w _ (along {v = v} {sum = sum} {tokens = tokens} walk arc) = elim (walks g u v sum walk) [
  | inl same ↦ inr ([], subst (λ (x : ℕ). Leads g x w) (sym same) (leads g v w tokens arc))
  | inr (events, is) ↦ inr (events ++ v ∷ [], walk_join (Leads g) u events v [] w is (leads g v w tokens arc))
]

-- a walk to another event goes along arcs
walks_on : (g : Graph) (u v sum : ℕ) → (u ≡ v → ⊥) → Walk g u v sum → (events : List ℕ) × IsWalk (Leads g) u events v
walks_on g u v sum apart walk = elim (walks g u v sum walk) [
  | inl same ↦ absurd (apart same)
  | inr there ↦ there
]

-- the events of `IN` wait for each other
in_cycle : (s : Split) (g : Graph) → IsPlan s g → HasCycle g
in_cycle s g plan =
    let (low, there, few) = plan.orders 0 1 0 (opens_first In tt) in
    let (high, back, some) = plan.orders 1 0 1 (closes_before_next In tt) in
    let (events, on) = walks_on g 0 1 low (λ e. absurd (omega (arith, e))) there in
    let (others, home) = walks_on g 1 0 high (λ e. absurd (omega (arith, e))) back in
    (0, events ++ 1 ∷ others, walk_join (Leads g) 0 events 1 others 0 on home)

pub plans : PlansHavePeriods
plans s g plan = record { tokens = plan.live; cycle = in_cycle s g plan }
