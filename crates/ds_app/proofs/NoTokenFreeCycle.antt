-- In a graph in which nothing waits for itself no arcs without tokens lead in a circle.
use Rattle.std.proofs.Common.{◌≡◌, ℕ, ◌<◌, List, [], ◌∷◌, arith, subst}
use Rattle.ds_marked.specs.Graph.{Graph, IsLive}
use Rattle.ds_marked.specs.declared.marked.Arc.{Arc}
use Rattle.ds_rank.specs.Order.{IsCycle, IsWalk}
use Rattle.ds_rank.specs.Rank.{HasFreeArc}

module _ (g : Graph) (live : IsLive g) where
  -- the numbering rises along an arc without tokens
  arc_rises : (u v : ℕ) → HasFreeArc g u v → live.rank u < live.rank v
  arc_rises u v (k, arc, inside, at, (source, target, none)) =
      let low : live.rank arc.source < live.rank arc.target =
      subst (λ (a : Arc). a.tokens ≡ 0 → live.rank a.source < live.rank a.target) at (live.rises k arc inside) none in
      subst (λ (n : ℕ). live.rank n < live.rank v) source (subst (λ (n : ℕ). live.rank arc.source < live.rank n) target low)

  -- and along a walk
  walk_rises : (u : ℕ) (events : List ℕ) (v : ℕ) → IsWalk (HasFreeArc g) u events v → live.rank u < live.rank v
  walk_rises u [] v arc = arc_rises u v arc
  walk_rises u (w ∷ events) v (arc, rest) = omega (arith, arc_rises u w arc, walk_rises w events v rest)

  pub no_cycle : (events : List ℕ) → IsCycle (HasFreeArc g) events → ⊥
  no_cycle [] none = none
  no_cycle (u ∷ events) (walk, distinct, least) = absurd (omega (arith, walk_rises u events u walk))
