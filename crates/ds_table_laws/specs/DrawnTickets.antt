-- Which tickets the firings of a run draw.
use Rattle.std.specs.Prelude.{◌≡◌, ℕ, ◌-◌, ◌<◌, ◌≤◌, List, length, slice_index, All}
use mathlib.Core.Option.{some}
use lib.ListN.{get_elem?}
use Rattle.ds_rule.specs.Run.{Run, node_of}
use Rattle.ds_rule.specs.Sound.{IsSound}
use Rattle.ds_rule.specs.Log.{Recorded}

-- the tickets of the events are the numbers below the number of firings, and each is that of one
-- firing only
abbrev pub TicketsAreNumbers : Type 0
TicketsAreNumbers = (run : Run) (tickets : ℕ → List ℕ) (many : ℕ) → Recorded run tickets many
    → ((t : ℕ) → t < many → (e : ℕ) × (k : ℕ) × (node_of run e < run.nodes)
    × (get_elem? (tickets e) k ≡ some t))
    × ((d e j k t : ℕ) → node_of run d < run.nodes → node_of run e < run.nodes
    → get_elem? (tickets d) j ≡ some t → get_elem? (tickets e) k ≡ some t
    → (t < many) × (d ≡ e) × (j ≡ k))

-- along each arc the firing of its source that a firing of its target waits for, which is numbered
-- lower by the tokens of the arc, is there and has a lower ticket
abbrev pub TicketsFollow : Type 0
TicketsFollow = (run : Run) (tickets : ℕ → List ℕ) (many : ℕ) → IsSound run
    → Recorded run tickets many → All (λ a. (j : ℕ) → a.tokens ≤ j → j < length (tickets a.target)
    → (j - a.tokens < length (tickets a.source))
    × (slice_index (tickets a.source) (j - a.tokens) < slice_index (tickets a.target) j)) run.arcs
