-- The firings of a schedule do what the clocked circuit does.
use Rattle.std.specs.Prelude.{◌≡◌, ℕ, List, length, slice_index, take}
use Rattle.ds_base.specs.Values.{Row}
use Rattle.ds_marked.specs.Graph.{Graph}
use Rattle.ds_latch.specs.Headline.{Desynchronizes, Interleaves}
use Rattle.ds_latch.specs.Node.{Split}
use Rattle.ds_latch.specs.Plan.{IsPlan}
use Rattle.ds_rank.specs.Rank.{AreRanks}
use Rattle.ds_times.specs.Order.{AreAllFirings, FiresBefore, Firing, IsListedBefore, fired_events}
use Rattle.ds_graph_laws.specs.OneSchedule.{IsScheduleOf}

-- each first part of the firings does what a clocked run does: it can be fired, and the values that
-- each register has stored then are the first of its clocked values
abbrev pub FollowsClock : (s : Split) (g : Graph) (vectors : List Row) → Desynchronizes s g vectors
    → List Firing → Type 0
FollowsClock s g vectors run firings =
    (n : ℕ) → Interleaves s g vectors run.state run.nets (take n (fired_events firings))

-- so it is for the firings of a plan turn by turn, in each turn by rank and number
abbrev pub ListedFollowClock : Type 0
ListedFollowClock = (s : Split) (g : Graph) → IsPlan s g → (ranks : List ℕ) → AreRanks g ranks
    → (vectors : List Row) (run : Desynchronizes s g vectors) (firings : List Firing)
    → AreAllFirings (IsListedBefore (slice_index ranks)) (length g.events) (length vectors) firings
    → FollowsClock s g vectors run firings

-- and by the times of a schedule, those of one time in the same order
abbrev pub TimedFollowClock : Type 0
TimedFollowClock = (s : Split) (g : Graph) → IsPlan s g → (ranks : List ℕ) → AreRanks g ranks
    → (delays : List ℕ) → length delays ≡ length g.arcs
    → (vectors : List Row) (run : Desynchronizes s g vectors)
    → (time : ℕ → ℕ → ℕ) → IsScheduleOf g delays (length vectors) time → (firings : List Firing)
    → AreAllFirings (FiresBefore time (slice_index ranks)) (length g.events) (length vectors)
    firings
    → FollowsClock s g vectors run firings
