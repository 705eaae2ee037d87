-- Acceptable graphs have plans.
use Rattle.ds_marked.specs.Graph.{Graph, IsKept}
use Rattle.ds_latch.specs.Node.{Split}
use Rattle.ds_latch.specs.Plan.{Planned}
use Rattle.ds_accept.specs.Accept.{IsAcceptable, IsPlanOf}

-- a graph that is acceptable for a split design can be put in the order of a plan: the events of
-- the nodes first, and then all others
abbrev pub AcceptableGraphsHavePlans : Type 0
AcceptableGraphsHavePlans = (s : Split) (g : Graph) → IsKept g → IsAcceptable s g
    → (plan : Planned) × IsPlanOf s g plan × IsKept plan.graph
