-- Ranks exist, or a cycle does.
use Rattle.std.specs.Prelude.{◌⊎◌, ℕ, List, length}
use Rattle.ds_marked.specs.Graph.{AreEnds, Graph, IsLive}
use Rattle.ds_rank.specs.Order.{HasEdge, IsCycle, IsRanks}
use Rattle.ds_rank.specs.Rank.{AreRanks, HasFreeArc}
use Rattle.ds_rank.specs.Search.{EndsAreNodes}
use Rattle.ds_rank.specs.declared.edge.Edge.{Edge}

-- edges between nodes give the nodes ranks, above any floors, or some of them lead in a circle
abbrev pub RanksOrCycle : Type 0
RanksOrCycle = (edges : List Edge) (count : ℕ) (floor : ℕ → ℕ) → EndsAreNodes count edges
    → ((ranks : List ℕ) × IsRanks (HasEdge edges) count floor ranks)
    ⊎ ((nodes : List ℕ) × IsCycle (HasEdge edges) nodes)

-- a graph whose arcs join its events has ranks, or a cycle of arcs without tokens
abbrev pub EventsHaveRanksOrCycle : Type 0
EventsHaveRanksOrCycle = (g : Graph) → AreEnds (length g.events) g.arcs
    → ((ranks : List ℕ) × AreRanks g ranks) ⊎ ((events : List ℕ) × IsCycle (HasFreeArc g) events)

-- a graph in which nothing waits for itself has ranks
abbrev pub LiveGraphsHaveRanks : Type 0
LiveGraphsHaveRanks = (g : Graph) → IsLive g → (ranks : List ℕ) × AreRanks g ranks
