-- The period paces a schedule.
use Rattle.std.specs.Prelude.{◌<◌, ◌≤◌, ◌+◌, ◌-◌, ◌*◌, ℕ, List, length, slice_index}
use Rattle.ds_marked.specs.Graph.{Graph, IsLive}
use Rattle.ds_period.specs.declared.timed.Timed.{Timed}
use Rattle.ds_period.specs.Period.{IsPeriod}
use Rattle.ds_period.specs.Timing.{timed_arcs}
use Rattle.ds_period.specs.Walk.{IsChain, walk_delay, walk_tokens}
use Rattle.ds_graph_laws.specs.OneSchedule.{IsScheduleOf}

-- an event is no later than its potential after as many periods as there are turns before
abbrev pub PeriodsBoundTimes : Type 0
PeriodsBoundTimes = (g : Graph) → IsLive g → (delays : List ℕ) (p q : ℕ)
    (cycle potentials : List ℕ)
    → IsPeriod (timed_arcs g.arcs delays) (length g.events) p q cycle potentials
    → (turns : ℕ) (time : ℕ → ℕ → ℕ) → IsScheduleOf g delays turns time
    → (v k : ℕ) → 0 < k → k ≤ turns → q * time v k ≤ p * (k - 1) + slice_index potentials v

-- an event fires so many turns later, as a closed walk through it has tokens, no earlier than the
-- delay of the walk later
abbrev pub CyclesPaceTimes : Type 0
CyclesPaceTimes = (g : Graph) (delays : List ℕ) (turns : ℕ) (time : ℕ → ℕ → ℕ)
    → IsScheduleOf g delays turns time
    → (v : ℕ) (walk : List Timed) → IsChain (timed_arcs g.arcs delays) v walk v
    → (k : ℕ) → 0 < k → k + walk_tokens walk ≤ turns
    → time v k + walk_delay walk ≤ time v (k + walk_tokens walk)
