-- An order in which all events of a turn may fire, one after another.
use Rattle.std.specs.Prelude.{◌≡◌, ℕ, ◌+◌, ◌*◌, ◌<◌, ◌≤◌, List, length, slice_index, All}
use Rattle.ds_rule.specs.Run.{Run, node_of, next, count, IsEnabledInRun}
use Rattle.ds_rule.specs.Rule.{seen}
use Rattle.ds_rule.specs.declared.view.View.{View}

-- each event of the order is one of the run and stands at its place
abbrev pub StandInPlace : Run → List ℕ → List ℕ → Type 0
StandInPlace run order places = (i : ℕ) → i < length order
    → (node_of run (slice_index order i) < run.nodes)
    × (slice_index places (slice_index order i) ≡ i)

-- each of so many events has a place, at which it stands
abbrev pub HavePlaces : ℕ → List ℕ → List ℕ → Type 0
HavePlaces events order places = (e : ℕ) → e < events
    → (slice_index places e < length order) × (slice_index order (slice_index places e) ≡ e)

-- the places rise along each arc without tokens
abbrev pub PlacesRise : Run → List ℕ → Type 0
PlacesRise run places =
    All (λ a. a.tokens ≡ 0 → slice_index places a.source < slice_index places a.target) run.arcs

-- each of so many latches opens before it closes
abbrev pub CloseLater : ℕ → List ℕ → Type 0
CloseLater design_nodes places = (l : ℕ) → l < design_nodes
    → slice_index places (2 * l) < slice_index places (2 * l + 1)

-- the order has each event once, behind the sources of the arcs without tokens into it
pub record IsFiringOrder (run : Run) (order : List ℕ) : Type 0 where
  pub places : List ℕ
  pub stand : StandInPlace run order places
  pub all : HavePlaces (run.nodes + run.design_nodes) order places
  pub rise : PlacesRise run places
  pub close : CloseLater run.design_nodes places

-- the first i events of the order have fired once more than in so many turns, the others have not
pub record StandsAt (run : Run) (v : View) (order : List ℕ) (i turn : ℕ) : Type 0 where
  pub fired : (j : ℕ) → j < i → count run (seen v) (slice_index order j) ≡ turn + 1
  pub waits : (j : ℕ) → i ≤ j → j < length order → count run (seen v) (slice_index order j) ≡ turn

-- the event is the next one of its node, and enabled
pub record IsDue (run : Run) (v : View) (event : ℕ) : Type 0 where
  pub near : node_of run event < run.nodes
  pub next_is : next run (node_of run event) (seen v (node_of run event)) ≡ event
  pub enabled : IsEnabledInRun run (seen v) event
