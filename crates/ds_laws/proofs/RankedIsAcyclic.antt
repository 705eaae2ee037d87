-- Where the events of a graph have ranks, no arcs without tokens lead in a circle.
use Rattle.std.proofs.Common.{ℕ, ◌<◌, List, [], ◌∷◌, arith}
use Rattle.std.specs.Prelude.{slice_index}
use Rattle.ds_marked.specs.Graph.{Graph}
use Rattle.ds_rank.specs.Order.{IsCycle, IsWalk}
use Rattle.ds_rank.specs.Rank.{AreRanks, HasFreeArc}

module _ (g : Graph) (ranks : List ℕ) (ranked : AreRanks g ranks) where
  -- the ranks rise along an arc without tokens
  arc_rises : (u v : ℕ) → HasFreeArc g u v → slice_index ranks u < slice_index ranks v
  arc_rises u v arc = omega (arith, ranked.above u v arc)

  -- and along a walk
  walk_rises : (u : ℕ) (events : List ℕ) (v : ℕ) → IsWalk (HasFreeArc g) u events v → slice_index ranks u < slice_index ranks v
  walk_rises u [] v arc = arc_rises u v arc
  walk_rises u (w ∷ events) v (arc, rest) = omega (arith, arc_rises u w arc, walk_rises w events v rest)

  no_cycle : (events : List ℕ) → ¬ IsCycle (HasFreeArc g) events
  no_cycle [] none = none
  no_cycle (u ∷ events) (walk, distinct, least) = absurd (omega (arith, walk_rises u events u walk))

pub ranked_has_no_cycle : (g : Graph) (ranks events : List ℕ) → AreRanks g ranks → ¬ IsCycle (HasFreeArc g) events
ranked_has_no_cycle g ranks events ranked = no_cycle g ranks ranked events
