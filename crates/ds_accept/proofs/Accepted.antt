-- An acceptable graph is accepted.
use Rattle.std.proofs.Common.{◌≡◌, ◌⊎◌, inl, inr, ℕ, ◌<◌, ◌≤◌, List, ◌++◌, length, get_or, map, refl, ◌∙◌, arith, All, Contains}
use Rattle.std.proofs.lemmas.Bool.{cases_lt}
use Rattle.std.proofs.lemmas.List.{get_or_default}
use Rattle.std.proofs.lemmas.List.Sorted.{IsPermutation-refl}
use Rattle.ds_marked.specs.Graph.{Graph}
use Rattle.ds_marked.specs.declared.marked.Event.{Event}
use Rattle.ds_latch.specs.Node.{Split}
use Rattle.ds_latch.specs.Plan.{split_events}
use Rattle.ds_control.proofs.DistinctEvents.{events_once}
use Rattle.ds_accept.specs.Accept.{AreThere, EventStandsAt, extra_events}
use Rattle.ds_accept.specs.Laws.{AcceptableIsAccepted}
use Rattle.ds_accept.specs.Steps.{moved}
use Rattle.ds_accept.proofs.Moved.{plan, reorders}
use Rattle.ds_accept.proofs.Others.{each_has}
use Rattle.ds_accept.proofs.SubsetLength.{some_event}

module _ (events others : List Event) (there : All (Contains others) events) where
  -- for each event its place among others that have it
  pub place_by : (v : ℕ) → (v < length events) ⊎ (length events ≤ v) → ℕ
  place_by v (inl low) = (there v some_event low).0
  place_by v (inr high) = 0

  pub placed_by : (v : ℕ) (d : Event) (which : (v < length events) ⊎ (length events ≤ v)) → v < length events
      → (place_by v which < length others) × (get_or others (place_by v which) d ≡ get_or events v d)
  unfolding place_by
  placed_by v d (inl low) inside =
      let (j, place, is) = there v some_event low in (
        place,
        get_or_default others j d (get_or events v some_event) place ∙ (is ∙ get_or_default events v some_event d low),
      )
  placed_by v d (inr high) inside = absurd (omega arith)

-- the place of a node's event
pub place_in : (s : Split) (g : Graph) → AreThere s g → ℕ → ℕ
place_in s g there v = place_by (split_events s) g.events there v (cases_lt v (length (split_events s)))

pub placed_in : (s : Split) (g : Graph) (there : AreThere s g) (v : ℕ) → v < length (split_events s) → EventStandsAt s g v (place_in s g there v)
unfolding place_in
placed_in s g there v low = record {
  number = low;
  inside = (placed_by (split_events s) g.events there v some_event (cases_lt v (length (split_events s))) low).0;
  event = λ d. (placed_by (split_events s) g.events there v d (cases_lt v (length (split_events s))) low).1;
}

pub acceptable_is_accepted_lem : AcceptableIsAccepted
acceptable_is_accepted_lem s g split few kept acc =
    let all : List Event = split_events s ++ extra_events s g in
    let has : All (Contains all) g.events = each_has (split_events s) g.events in
    let number : ℕ → ℕ = λ p. place_by g.events all has p (cases_lt p (length g.events)) in
    let to : Graph = record { events = all; arcs = map (moved number) g.arcs } in
    let numbered : (p : ℕ) (d : Event) → p < length g.events → (number p < length all) × (get_or all (number p) d ≡ get_or g.events p d)
    = λ p d inside. placed_by g.events all has p d (cases_lt p (length g.events)) inside in (
      to,
      reorders s g to number (place_in s g acc.there) kept (events_once s few) numbered (placed_in s g acc.there) refl (IsPermutation-refl (map (moved number) g.arcs)),
      plan s g to number (place_in s g acc.there) kept (events_once s few) numbered (placed_in s g acc.there) refl (IsPermutation-refl (map (moved number) g.arcs)) split acc,
    )
