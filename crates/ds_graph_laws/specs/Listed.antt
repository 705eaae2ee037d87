-- The firings of a schedule are a legal list, turn by turn and by their times.
use Rattle.std.specs.Prelude.{◌≡◌, ⊤, ℕ, ◌+◌, List, [], ◌∷◌, length, slice_index}
use Rattle.ds_marked.specs.Graph.{AreEnds, Graph, counted}
use Rattle.ds_marked.specs.Window.{IsWindow}
use Rattle.ds_rank.specs.Rank.{AreRanks}
use Rattle.ds_times.specs.Order.{AreAllFirings, FiresBefore, Firing, IsByRank, IsListedBefore}
use Rattle.ds_times.specs.Order.{fired_events, firings_from}
use Rattle.ds_graph_laws.specs.OneSchedule.{IsScheduleOf}

-- each event fires so many times, each time when it may
abbrev pub IsFullAndLegal : Graph → ℕ → List Firing → Type 0
IsFullAndLegal g turns firings =
    IsWindow g (record { turns = turns; firings = fired_events firings })

-- the events by rank and number, once for each turn, are all firings turn by turn
abbrev pub TurnsAreListed : Type 0
TurnsAreListed = (rank : ℕ → ℕ) (events turns : ℕ) (order : List ℕ) → IsByRank rank events order
    → AreAllFirings (IsListedBefore rank) events turns (firings_from order 1 turns)

-- there is exactly one order of events by rank and number
abbrev pub EventsHaveOneOrder : Type 0
EventsHaveOneOrder = (rank : ℕ → ℕ) (events : ℕ) → (order : List ℕ) × IsByRank rank events order
    × ((other : List ℕ) → IsByRank rank events other → other ≡ order)

-- firings turn by turn, in each turn by rank and number, are a legal list
abbrev pub ListedAreLegal : Type 0
ListedAreLegal = (g : Graph) (ranks : List ℕ) → AreEnds (length g.events) g.arcs
    → AreRanks g ranks → (turns : ℕ) (firings : List Firing)
    → AreAllFirings (IsListedBefore (slice_index ranks)) (length g.events) turns firings
    → IsFullAndLegal g turns firings

-- from these counts on, each firing has its event's next turn
abbrev pub HaveNextTurns : (ℕ → ℕ) → List Firing → Type 0
HaveNextTurns count [] = ⊤
HaveNextTurns count (f ∷ firings) =
    (f.turn ≡ count f.event + 1) × HaveNextTurns (counted f.event count) firings

-- so have such firings from the first one on
abbrev pub ListedAreNumbered : Type 0
ListedAreNumbered = (g : Graph) (ranks : List ℕ) → AreEnds (length g.events) g.arcs
    → AreRanks g ranks → (turns : ℕ) (firings : List Firing)
    → AreAllFirings (IsListedBefore (slice_index ranks)) (length g.events) turns firings
    → HaveNextTurns (λ _. 0) firings

-- firings by the times of a schedule, those of one time in the same order as above, are legal too
abbrev pub TimedAreLegal : Type 0
TimedAreLegal = (g : Graph) (ranks : List ℕ) → AreEnds (length g.events) g.arcs
    → AreRanks g ranks → (delays : List ℕ) → length delays ≡ length g.arcs
    → (turns : ℕ) (time : ℕ → ℕ → ℕ) → IsScheduleOf g delays turns time → (firings : List Firing)
    → AreAllFirings (FiresBefore time (slice_index ranks)) (length g.events) turns firings
    → IsFullAndLegal g turns firings
