-- The arcs into an event, in rising order.
use Rattle.std.specs.Prelude.{◌≡◌, ◌≢◌, ℕ, ◌+◌, ◌<◌, ◌≤◌, Option, None, Some, List, length}
use Rattle.std.specs.Prelude.{slice_index}
use Rattle.std.specs.List.{HoldsAt, AllWithin}
use Rattle.ds_marked.specs.declared.marked.Arc.{Arc}

-- the arc at this place enters the event
abbrev pub Enters : List Arc → ℕ → ℕ → Type 0
Enters arcs v k = (k < length arcs) × HoldsAt (λ arc. arc.target ≡ v) arcs k

-- no arc from the one place up to the other enters the event
abbrev pub NoneEnters : List Arc → ℕ → ℕ → ℕ → Type 0
NoneEnters arcs v from to = AllWithin (λ arc. arc.target ≢ v) arcs from to

-- the least arc into the event from a place on, or none where no further one enters it
abbrev pub IsNextInto : List Arc → ℕ → ℕ → Option ℕ → Type 0
IsNextInto arcs v from None = NoneEnters arcs v from (length arcs)
IsNextInto arcs v from (Some k) = (from ≤ k) × Enters arcs v k × NoneEnters arcs v from k

-- the same as it is kept, where the number of the arcs stands for none
pub record IsNextPlace (arcs : List Arc) (v from k : ℕ) : Type 0 where
  pub low : from ≤ k
  pub high : k ≤ length arcs
  pub enters : k < length arcs → Enters arcs v k
  pub between : NoneEnters arcs v from k

-- for each event its least arc from this one on, and from there on for each arc the next one into
-- the same event
pub record AreChains (events : ℕ) (arcs : List Arc) (from : ℕ) (first next : List ℕ) : Type 0 where
  pub one_each : length first ≡ events
  pub one_an_arc : length next ≡ length arcs
  pub firsts : (v : ℕ) → v < events → IsNextPlace arcs v from (slice_index first v)
  pub nexts : (v k : ℕ) → from ≤ k → Enters arcs v k
      → IsNextPlace arcs v (k + 1) (slice_index next k)
