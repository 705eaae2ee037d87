-- What follows of the numbers of nodes and events.
use Rattle.std.specs.Prelude.{◌≡◌, ◌≢◌, ℕ, ◌+◌, ◌<◌, ◌≤◌, [], ◌∷◌, Contains}
use Rattle.ds_latch.specs.Node.{Split, IsNode, number_of, opening, closing, nodes}
use Rattle.ds_latch.specs.declared.node.Node.{Node}
use Rattle.ds_latch.specs.Node.{extra_event, events_of, place_of}

-- the events of a node are an opening and a closing, or one extra event, and each event is one
-- node's
abbrev pub EventsOfNodes : Type 0
EventsOfNodes = (s : Split)
    → ((n : Node) → IsNode s n → events_of s (number_of n) ≡ opening n ∷ closing n ∷ [])
    × ((e : ℕ) → events_of s (nodes s + e) ≡ extra_event s e ∷ [])
    × ((v : ℕ) → (n : ℕ) × Contains (events_of s n) v)
    × ((v n m : ℕ) → Contains (events_of s n) v → Contains (events_of s m) v → n ≡ m)

-- a row put at a place leaves the rows of the openings that are kept
abbrev pub PlacesDiffer : Type 0
PlacesDiffer = (s : Split)
    → (place_of s 0 ≡ 0)
    × ((k later : ℕ) → k < later → later ≤ k + s.slack → place_of s later ≢ place_of s k)
