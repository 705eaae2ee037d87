-- The graph of a plan has a period.
use Rattle.ds_marked.specs.Graph.{Graph, IsLive}
use Rattle.ds_latch.specs.Node.{Split}
use Rattle.ds_latch.specs.Plan.{IsPlan}
use Rattle.ds_period.specs.Timing.{HasCycle}

-- what is asked of a graph: each cycle has a token, and some cycle is there
pub record HasPeriod (g : Graph) : Type 0 where
  pub tokens : IsLive g
  pub cycle : HasCycle g

-- a graph that controls a split design is such
abbrev pub PlansHavePeriods : Type 0
PlansHavePeriods = (s : Split) (g : Graph) → IsPlan s g → HasPeriod g
