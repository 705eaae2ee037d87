-- Ranks along the arcs without tokens.
use Rattle.std.specs.Prelude.{◌≡◌, ◌<◌, ⊤, ℕ, List, length, slice_index, All, Any}
use Rattle.ds_marked.specs.Graph.{Graph}
use Rattle.ds_marked.specs.declared.marked.Arc.{Arc}
use Rattle.ds_rank.specs.Order.{IsCycle, IsRanks}
use Rattle.ds_rank.specs.declared.fault.RankFault.{RankFault}
use Rattle.ds_rank.specs.declared.fault.RankFault.TheVariants.{Cycle, Memory}

-- an arc without tokens leads from u to v
abbrev pub HasFreeArc : Graph → ℕ → ℕ → Type 0
HasFreeArc g u v = Any (λ arc. (arc.source ≡ u) × (arc.target ≡ v) × (arc.tokens ≡ 0)) g.arcs

-- the rank of an event is 0 where no arc without tokens enters it, else one more than the greatest
-- rank of the sources of such arcs
abbrev pub AreRanks : Graph → List ℕ → Type 0
AreRanks g ranks = IsRanks (HasFreeArc g) (length g.events) (λ _. 0) ranks

-- why events have no ranks: arcs without tokens lead in a circle
abbrev pub IsRankFault : Graph → RankFault → Type 0
IsRankFault g (Cycle events) = IsCycle (HasFreeArc g) events
IsRankFault g Memory = ⊤

-- the numbers rise on an arc, if it has no tokens
abbrev pub RisesOn : List ℕ → Arc → Type 0
RisesOn ranks arc = arc.tokens ≡ 0 → slice_index ranks arc.source < slice_index ranks arc.target

-- the numbers rise along each arc without tokens
abbrev pub RisesAlong : Graph → List ℕ → Type 0
RisesAlong g ranks = All (RisesOn ranks) g.arcs
