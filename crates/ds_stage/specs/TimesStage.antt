-- The text of a timed run.
use Rattle.std.specs.Prelude.{◌≡◌, ℕ, List, ◌++◌, codes, decimal, length, slice_index}
use Rattle.std.specs.List.{flat_map}
use Rattle.ds_outside.specs.Held.{Held}
use Rattle.ds_marked.specs.Graph.{Graph}
use Rattle.ds_marked.specs.Log.{text_of_event}
use Rattle.ds_rank.specs.Rank.{AreRanks}
use Rattle.ds_period.specs.Timing.{timed_arcs}
use Rattle.ds_times.specs.Order.{Firing, IsByRank, firings_from}
use Rattle.ds_times.specs.Schedule.{IsSchedule}
use Rattle.ds_stage.specs.PeriodStage.{delays_stage}
use Rattle.ds_stage.specs.Stage.{Stage, giving, then_stage}

-- the line of a firing: the event, the turn, and the time
abbrev pub time_line : Graph → (ℕ → ℕ → ℕ) → Firing → List ℕ
time_line g time firing = text_of_event g firing.event ++ codes " " ++ decimal firing.turn
    ++ codes " " ++ decimal (time firing.event firing.turn) ++ codes "\n"

-- the lines of so many turns, in each of them the events in this order
abbrev pub time_lines : Graph → (ℕ → ℕ → ℕ) → List ℕ → ℕ → List ℕ
time_lines g time order turns = flat_map (time_line g time) (firings_from order 1 turns)

-- a text of the times of so many turns of a graph with a delay an arc: those of its schedule, in
-- each turn of the events by rank, and by number where ranks are the same
pub record IsTimesText (g : Graph) (delays : List ℕ) (turns : ℕ) (text : List ℕ) : Type 0 where
  pub ranks : List ℕ
  pub are_ranks : AreRanks g ranks
  pub order : List ℕ
  pub by_rank : IsByRank (slice_index ranks) (length g.events) order
  pub time : ℕ → ℕ → ℕ
  pub schedule : IsSchedule (timed_arcs g.arcs delays) turns time
  pub spelt : text ≡ time_lines g time order turns

-- the text of the times of a graph, with the delays of a file
abbrev pub scheduled_stage : (List ℕ → Held) → List ℕ → ℕ → Graph → Stage (List ℕ)
scheduled_stage held file turns g =
    then_stage (delays_stage held file g) (λ delays. giving (IsTimesText g delays turns))
