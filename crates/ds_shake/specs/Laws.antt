-- What follows of the definitions alone.
use Rattle.std.specs.Prelude.{◌≡◌, ◌≢◌, ℕ, List}
use Rattle.ds_marked.specs.Graph.{Graph, IsKept, IsLegal}
use Rattle.ds_latch.specs.Node.{Split}
use Rattle.ds_latch.specs.Plan.{IsPlan, IsSplit, split_events}
use Rattle.ds_latch.specs.Controls.{node_firings}
use Rattle.ds_control.specs.Control.{AreOrders}
use Rattle.ds_shake.specs.Expansion.{HasTooManyArcs, IsExpansion, IsShakeFault}
use Rattle.ds_shake.specs.declared.fault.ShakeFault.{ShakeFault}
use Rattle.ds_shake.specs.declared.fault.ShakeFault.TheVariants.{Memory}

-- an expansion is a plan's graph: each required order is given, and nothing waits for itself
abbrev pub ExpansionsArePlans : Type 0
ExpansionsArePlans = (s : Split) (g : Graph) → IsSplit s → IsExpansion s g → IsPlan s g

-- an expansion lets no node fire where the required orders do not: of each of its legal lists, the
-- firings of the nodes are a legal list of the graph whose arcs are exactly the required orders
abbrev pub ExpansionsFireNothingNew : Type 0
ExpansionsFireNothingNew = (s : Split) (g orders : Graph) → IsSplit s → IsExpansion s g
    → orders.events ≡ split_events s → AreOrders s orders
    → (limit : ℕ) (events : List ℕ) → IsLegal g limit events
    → IsLegal orders limit (node_firings s events)

-- a split design has one expansion at most
abbrev pub OneExpansion : Type 0
OneExpansion = (s : Split) (one other : Graph) → IsKept one → IsKept other
    → IsExpansion s one → IsExpansion s other → one ≡ other

-- where there is a fault there is no expansion
abbrev pub ShakeFaultsAreRefused : Type 0
ShakeFaultsAreRefused = (s : Split) (g : Graph) (fault : ShakeFault) → fault ≢ Memory
    → IsShakeFault s fault → ¬ IsExpansion s g

-- where the signals are few, the arcs are no more than a graph may have
abbrev pub ArcsFit : Type 0
ArcsFit = (s : Split) → ¬ HasTooManyArcs s
