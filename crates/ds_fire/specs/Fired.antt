-- What a firing changes, and the states that firings lead to.
use Rattle.std.specs.Prelude.{◌≡◌, ℕ, ◌+◌, ◌*◌, ◌^◌, ◌<◌, ◌≤◌, List, length, All, slice_set}
use Rattle.ds_marked.specs.Graph.{IsEnabled, IsLegal}
use Rattle.ds_design.specs.Circuit.{columns}
use Rattle.ds_design.specs.InRange.{IsInRange}
use Rattle.ds_latch.specs.Node.{IsNode, nodes, closing}
use Rattle.ds_latch.specs.declared.node.Node.{Node}
use Rattle.ds_latch.specs.Plan.{IsPlan}
use Rattle.ds_latch.specs.Firing.{State, first_state, Fires, FiresAll}
use Rattle.ds_fire.specs.Snapshot.{Snapshot, Shows, split_of, graph_of, limit_of, count_of, rows_of}
use Rattle.ds_fire.specs.Snapshot.{stored_values, width_of}

-- an event may fire
abbrev pub IsReady : Snapshot → ℕ → Type 0
IsReady kept v = IsEnabled (graph_of kept) (limit_of kept) (count_of kept) v

-- an event has fired: it was enabled, and for each state that was shown a next one is shown
pub record IsFired (old : Snapshot) (v : ℕ) (new : Snapshot) : Type 0 where
  pub enabled : IsReady old v
  pub planned : new.planned ≡ old.planned
  pub vectors : new.vectors ≡ old.vectors
  pub counts : new.counts ≡ slice_set old.counts v (count_of old v + 1)
  pub fires : (now : State) → Shows old now
      → (next : State) × Fires (split_of old) old.vectors now v next × Shows new next

-- what is kept shows a state after these firings
abbrev pub IsAfter : Snapshot → List ℕ → Type 0
IsAfter kept events =
    (now : State) × FiresAll (split_of kept) kept.vectors (first_state (split_of kept)) events now
    × Shows kept now

-- a legal list leads to what is kept
abbrev pub IsReached : Snapshot → Type 0
IsReached kept = (events : List ℕ) × IsLegal (graph_of kept) (limit_of kept) events
    × IsAfter kept events

-- the plan is accepted, there is a count for each event, and each list is as long as its node asks
pub record IsSnapshotSound (kept : Snapshot) : Type 0 where
  pub in_range : IsInRange (split_of kept).circuit
  pub plan : IsPlan (split_of kept) (graph_of kept)
  pub vectors : All (λ row. length row ≡ length (columns (split_of kept).circuit)) kept.vectors
  pub few : length (graph_of kept).events < 2 ^ 32
  pub counts : length kept.counts ≡ length (graph_of kept).events
  pub rows : length kept.rows ≡ nodes (split_of kept) * ((split_of kept).slack + 1)
  pub widths : (n : Node) → IsNode (split_of kept) n → (place : ℕ) → place ≤ (split_of kept).slack
      → length (rows_of (split_of kept) kept.rows n place) ≡ width_of kept n
  pub stored : length kept.stored ≡ nodes (split_of kept)
  pub lengths : (n : Node) → IsNode (split_of kept) n
      → length (stored_values kept n) ≡ count_of kept (closing n) * width_of kept n
