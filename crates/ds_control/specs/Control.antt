-- What a controller graph is.
use Rattle.std.specs.Prelude.{◌≡◌, ◌↔◌, ℕ, AllPairs}
use Rattle.ds_marked.specs.Graph.{Graph, IsArc}
use Rattle.ds_marked.specs.declared.marked.Arc.{Arc}
use Rattle.ds_latch.specs.Node.{Split}
use Rattle.ds_latch.specs.Order.{IsRequired}

-- the arcs are exactly the required orders
abbrev pub AreOrders : Split → Graph → Type 0
AreOrders s g = (u v tokens : ℕ) → IsRequired s u v tokens ↔ IsArc g u v tokens

-- the two arcs do not join the same events
abbrev pub EndsDiffer : Arc → Arc → Type 0
EndsDiffer a b = ¬ ((a.source ≡ b.source) × (a.target ≡ b.target))

-- no two arcs have the same ends
abbrev pub IsSimple : Graph → Type 0
IsSimple g = AllPairs EndsDiffer g.arcs
