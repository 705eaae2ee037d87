-- Masks: a word for each event and each sum of tokens, with a bit for each source.
use Rattle.std.specs.Prelude.{◌≡◌, ◌↔◌, ℕ, ◌+◌, ◌-◌, ◌*◌, ◌<◌, ◌≤◌, Bool, true, false, Option}
use Rattle.std.specs.Prelude.{None, Some, List, [], length, sum, slice_index, All, Contains}
use Rattle.std.specs.List.{HoldsAt}
use Rattle.std.specs.Int.{bit_at}
use Rattle.ds_marked.specs.Graph.{Graph, Walk}
use Rattle.ds_marked.specs.declared.marked.Arc.{Arc}

-- each arc of the first list stands in the second
abbrev pub AreAllIn : List Arc → List Arc → Type 0
AreAllIn arcs others = All (Contains others) arcs

-- two lists have the same arcs, in any order and any number
abbrev pub HaveSameArcs : List Arc → List Arc → Type 0
HaveSameArcs arcs others = AreAllIn arcs others × AreAllIn others arcs

-- the arcs from an event are added to others
pub record IsWithFrom (arcs : List Arc) (v : ℕ) (old new : List Arc) : Type 0 where
  pub kept : AreAllIn old new
  pub added : All (λ arc. arc.source ≡ v → Contains new arc) arcs
  pub alone : AreAllIn old arcs → AreAllIn new arcs

-- a graph with these arcs, for walks
abbrev pub along_arcs : List Arc → Graph
along_arcs arcs = record { events = []; arcs = arcs }

-- the mask of an event and a sum of tokens has this bit
abbrev pub IsReachedAt : ℕ → List ℕ → ℕ → ℕ → ℕ → Type 0
IsReachedAt events masks token_sum v bit =
    bit_at (slice_index masks (token_sum * events + v)) bit ≡ 1

-- each bit is a walk from the bit's source, whose tokens have this sum
abbrev pub AreWalks : List Arc → List ℕ → ℕ → ℕ → List ℕ → Type 0
AreWalks arcs sources events bound masks = (token_sum v bit : ℕ) → token_sum < bound → v < events
    → IsReachedAt events masks token_sum v bit
    → (bit < length sources) × Walk (along_arcs arcs) (slice_index sources bit) v token_sum

-- what is reached at the source of an arc is reached at its target, with its tokens more
abbrev pub IsClosedAt : ℕ → ℕ → List ℕ → ℕ → Arc → Type 0
IsClosedAt events bound masks token_sum arc = token_sum + arc.tokens < bound
    → (bit : ℕ) → IsReachedAt events masks token_sum arc.source bit
    → IsReachedAt events masks (token_sum + arc.tokens) arc.target bit

-- the same of all arcs, at the sums below a number
abbrev pub AreAllClosed : List Arc → ℕ → ℕ → ℕ → List ℕ → Type 0
AreAllClosed arcs events bound below masks = (token_sum : ℕ) → token_sum < below
    → All (IsClosedAt events bound masks token_sum) arcs

-- masks before the first sweep: each of the first sources is reached from itself
abbrev pub AreBegun : List ℕ → ℕ → List ℕ → Type 0
AreBegun sources count masks = (v bit : ℕ)
    → (bit_at (slice_index masks v) bit ≡ 1) ↔ ((bit < count) × (slice_index sources bit ≡ v))

-- masks after some arcs are taken: where none has changed, those arcs are closed
pub record IsSwept (arcs : List Arc) (events bound : ℕ) (closed : List ℕ → Type 0)
    (old new : List ℕ) (changed : Bool) : Type 0 where
  pub size : length new ≡ length old
  pub walks : (sources : List ℕ) → AreWalks arcs sources events bound old
      → AreWalks arcs sources events bound new
  pub kept : (i bit : ℕ) → bit_at (slice_index old i) bit ≡ 1 → bit_at (slice_index new i) bit ≡ 1
  pub more : changed ≡ true → sum old < sum new
  pub same : changed ≡ false → new ≡ old
  pub stays : changed ≡ false → closed new

-- orders from a place on: a bit for each, and a source for each bit
pub record IsBlock (asked : List Arc) (from : ℕ) (sources bits : List ℕ) : Type 0 where
  pub few : length sources ≤ 64
  pub some : 0 < length bits
  pub size : from + length bits ≤ length asked
  pub inside : All (λ v. (k : ℕ) × (k < length asked)
      × HoldsAt (λ order. order.source ≡ v) asked k) sources
  pub has_bit : (k : ℕ) → k < length bits → slice_index bits k < length sources
  pub has_source : (k : ℕ) → k < length bits
      → HoldsAt (λ order. slice_index sources (slice_index bits k) ≡ order.source) asked (from + k)

-- the target of an order is reached with at most its tokens
abbrev pub IsFoundBy : ℕ → List ℕ → Arc → ℕ → Type 0
IsFoundBy events masks order bit = (token_sum : ℕ) × (token_sum ≤ order.tokens)
    × IsReachedAt events masks token_sum order.target bit

-- the first order from a place on, among those with bits, that is not found
abbrev pub IsFirstNotFound : ℕ → List ℕ → List Arc → ℕ → List ℕ → Option ℕ → Type 0
IsFirstNotFound events masks asked from bits None = (k : ℕ) → k < length bits
    → HoldsAt (λ order. IsFoundBy events masks order (slice_index bits k)) asked (from + k)
IsFirstNotFound events masks asked from bits (Some place) =
    (from ≤ place) × (place < from + length bits)
    × HoldsAt (λ o. ¬ IsFoundBy events masks o (slice_index bits (place - from))) asked place
    × ((k : ℕ) → from + k < place
    → HoldsAt (λ o. IsFoundBy events masks o (slice_index bits k)) asked (from + k))
