-- Graphs are decided: each is acceptable for a split design or has a fault.
use Rattle.std.specs.Prelude.{◌≢◌, ◌⊎◌, ℕ, List}
use Rattle.ds_marked.specs.Graph.{Graph, IsKept}
use Rattle.ds_latch.specs.Node.{Split}
use Rattle.ds_latch.specs.Latches.{HasEdges}
use Rattle.ds_latch.specs.declared.latches.Edge.{Edge}
use Rattle.ds_accept.specs.Accept.{AreThere, IsAcceptable}
use Rattle.ds_accept.specs.Fault.{IsAcceptFault, IsFirstLacking}
use Rattle.ds_accept.specs.declared.fault.AcceptFault.{AcceptFault}
use Rattle.ds_accept.specs.declared.fault.AcceptFault.TheVariants.{Memory}

-- each event of a node is one of the graph, or there is a first one that the graph lacks
abbrev pub EventsAreDecided : Type 0
EventsAreDecided = (s : Split) (g : Graph) → AreThere s g ⊎ ((k : ℕ) × IsFirstLacking s g k)

-- the graph has a fault that is not want of memory
abbrev pub HasAcceptFault : Split → Graph → Type 0
HasAcceptFault s g = (fault : AcceptFault) × (fault ≢ Memory) × IsAcceptFault s g fault

-- each graph is acceptable for a split design whose data edges are listed, or has a fault
abbrev pub GraphsAreDecided : Type 0
GraphsAreDecided = (s : Split) (g : Graph) → IsKept g → (edges : List Edge) → HasEdges s edges
    → IsAcceptable s g ⊎ HasAcceptFault s g
