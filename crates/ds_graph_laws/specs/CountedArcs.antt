-- How many arcs a controller graph has.
use Rattle.std.specs.Prelude.{◌≡◌, ◌≢◌, ◌+◌, ◌*◌, List, length, AllPairs}
use Rattle.ds_marked.specs.Graph.{Graph}
use Rattle.ds_latch.specs.Node.{Split, nodes}
use Rattle.ds_latch.specs.Latches.{HasEdges}
use Rattle.ds_latch.specs.declared.latches.Edge.{Edge}
use Rattle.ds_control.specs.Control.{AreOrders, IsSimple}

-- a graph whose arcs are exactly the required orders, none twice, has two arcs for each node and
-- two for each data edge
abbrev pub ControllersAreCounted : Type 0
ControllersAreCounted = (s : Split) (g : Graph) → AreOrders s g → IsSimple g
    → (edges : List Edge) → HasEdges s edges → AllPairs (λ a b. a ≢ b) edges
    → length g.arcs ≡ 2 * nodes s + 2 * length edges
