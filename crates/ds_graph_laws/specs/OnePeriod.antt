-- A period is one: its ratio is the greatest, and two of them differ in the cycle alone.
use Rattle.std.specs.Prelude.{◌≡◌, ◌≤◌, ◌*◌, ℕ, List, length}
use Rattle.ds_marked.specs.Graph.{Graph}
use Rattle.ds_rank.specs.Order.{IsCycle}
use Rattle.ds_period.specs.declared.timed.Timed.{Timed}
use Rattle.ds_period.specs.Walk.{IsGreatest}
use Rattle.ds_period.specs.Found.{HasArc}
use Rattle.ds_period.specs.Period.{HasRatio, IsPeriod}
use Rattle.ds_period.specs.Timing.{timed_arcs}

-- no closed walk has a greater ratio than that of a period
abbrev pub PeriodsAreGreatest : Type 0
PeriodsAreGreatest = (arcs : List Timed) (count p q : ℕ) (cycle potentials : List ℕ)
    → IsPeriod arcs count p q cycle potentials → IsGreatest arcs p q

-- the events are a cycle with the ratio p / q, and no closed walk has a ratio r / s above that
pub record IsSlowest (arcs : List Timed) (p q : ℕ) (events : List ℕ) : Type 0 where
  pub cycle : IsCycle (HasArc arcs) events
  pub reached : HasRatio arcs p q events
  pub others : (r s : ℕ) (other : List ℕ) → HasRatio arcs r s other → r * q ≤ p * s

-- the cycle of a period is a slowest one
abbrev pub CyclesAreSlowest : Type 0
CyclesAreSlowest = (arcs : List Timed) (count p q : ℕ) (cycle potentials : List ℕ)
    → IsPeriod arcs count p q cycle potentials → IsSlowest arcs p q cycle

-- two periods of the same arcs have the same ratio and the same potentials: only their cycles may
-- differ
abbrev pub OnePeriod : Type 0
OnePeriod = (arcs : List Timed) (count p q r s : ℕ) (cycle potentials other others : List ℕ)
    → IsPeriod arcs count p q cycle potentials → IsPeriod arcs count r s other others
    → (p ≡ r) × (q ≡ s) × (potentials ≡ others)

-- so have two periods of a graph with the same delays
abbrev pub GraphsHaveOnePeriod : Type 0
GraphsHaveOnePeriod = (g : Graph) (delays : List ℕ) (p q r s : ℕ)
    (cycle potentials other others : List ℕ)
    → IsPeriod (timed_arcs g.arcs delays) (length g.events) p q cycle potentials
    → IsPeriod (timed_arcs g.arcs delays) (length g.events) r s other others
    → (p ≡ r) × (q ≡ s) × (potentials ≡ others)
