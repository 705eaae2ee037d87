-- Ranks exclude circles, and between two events there is one required order.
use Rattle.std.specs.Prelude.{◌≡◌, ℕ, List}
use Rattle.ds_marked.specs.Graph.{Graph}
use Rattle.ds_rank.specs.Order.{IsCycle}
use Rattle.ds_rank.specs.Rank.{AreRanks, HasFreeArc}
use Rattle.ds_latch.specs.Node.{Split}
use Rattle.ds_latch.specs.Order.{IsRequired}

-- a list of ranks excludes a circle of arcs without tokens
abbrev pub RankedHasNoCycle : Type 0
RankedHasNoCycle = (g : Graph) (ranks events : List ℕ) → AreRanks g ranks
    → ¬ IsCycle (HasFreeArc g) events

-- two required orders with the same ends have the same tokens
abbrev pub OneOrder : Type 0
OneOrder = (s : Split) (u v t t' : ℕ) → IsRequired s u v t → IsRequired s u v t' → t ≡ t'
