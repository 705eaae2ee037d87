-- What follows of the definitions alone.
use Rattle.std.specs.Prelude.{◌≡◌, ◌≢◌, ◌⊎◌, ◌≤◌, ℕ, List, length, ◌<◌, Option, Some, All}
use Rattle.ds_marked.specs.Graph.{Graph, IsKept}
use Rattle.ds_latch.specs.Node.{Split}
use Rattle.ds_latch.specs.Plan.{IsPlan, IsSplit, Planned, Reorders}
use Rattle.ds_accept.specs.Accept.{IsAcceptable, IsPlanOf}
use Rattle.ds_accept.specs.Fault.{IsAcceptFault}
use Rattle.ds_accept.specs.declared.fault.AcceptFault.{AcceptFault}
use Rattle.ds_accept.specs.declared.fault.AcceptFault.TheVariants.{Memory, TokenFreeCycle}
use Rattle.ds_accept.specs.Sums.{AreLeastSums}
use Rattle.ds_accept.specs.Lowered.{IsLowAt, sum_at}

-- a graph with a fault is not acceptable
abbrev pub AcceptFaultsAreRefused : Type 0
AcceptFaultsAreRefused = (s : Split) (g : Graph) (fault : AcceptFault) → fault ≢ Memory
    → IsAcceptFault s g fault → ¬ IsAcceptable s g

-- an acceptable graph is a plan's once the events of the nodes stand first, in their order
abbrev pub AcceptableIsAccepted : Type 0
AcceptableIsAccepted = (s : Split) (g : Graph) → IsSplit s → length s.clusters ≤ 1048576 → IsKept g
    → IsAcceptable s g → (to : Graph) × Reorders g to × IsPlan s to

-- the graph of a plan is acceptable
abbrev pub PlansAreAcceptable : Type 0
PlansAreAcceptable = (s : Split) (g : Graph) → IsPlan s g → IsAcceptable s g

-- a graph has one plan at most
abbrev pub OnePlan : Type 0
OnePlan = (s : Split) (g : Graph) (one other : Planned) → IsKept g → IsKept one.graph
    → IsKept other.graph
    → IsPlanOf s g one → IsPlanOf s g other → one ≡ other

-- the fault shows a cycle
abbrev pub ShowsTokenFreeCycle : AcceptFault → Type 0
ShowsTokenFreeCycle fault = (events : List ℕ) × (fault ≡ TokenFreeCycle events)

-- two faults of a graph are the same, or both show a cycle
abbrev pub OneAcceptFault : Type 0
OneAcceptFault = (s : Split) (g : Graph) (one other : AcceptFault) → IsKept g → one ≢ Memory
    → other ≢ Memory
    → IsAcceptFault s g one → IsAcceptFault s g other
    → (one ≡ other) ⊎ (ShowsTokenFreeCycle one × ShowsTokenFreeCycle other)

-- the least sums from an event are 0 at it, and rise along each arc by at most its tokens
abbrev pub LeastSumsAreLow : Type 0
LeastSumsAreLow = (g : Graph) (from : ℕ) (sums : List (Option ℕ)) → IsKept g
    → from < length g.events → AreLeastSums g from sums
    → (sum_at sums from ≡ Some 0) × All (IsLowAt sums) g.arcs

-- a graph has one list of least sums from an event
abbrev pub OneListOfSums : Type 0
OneListOfSums = (g : Graph) (from : ℕ) (one other : List (Option ℕ)) → AreLeastSums g from one
    → AreLeastSums g from other → one ≡ other
