-- What the steps of acceptance find.
use Rattle.std.specs.Prelude.{◌≡◌, ⊤, ℕ, ◌<◌, ◌≤◌, ◌⊎◌, List, [], ◌∷◌, ◌++◌, Some, length}
use Rattle.std.specs.Prelude.{slice_index}
use Rattle.std.specs.Prelude.{slice_index_or, All, AllPairs, Any, Contains, IsPermutation, map}
use Rattle.std.specs.List.{HoldsAt}
use Rattle.ds_marked.specs.Graph.{Graph, IsKept, StandsBefore}
use Rattle.ds_marked.specs.declared.marked.Arc.{Arc}
use Rattle.ds_marked.specs.declared.marked.Event.{Event}
use Rattle.ds_rank.specs.Order.{IsCycle}
use Rattle.ds_rank.specs.Rank.{AreRanks, HasFreeArc}
use Rattle.ds_accept.specs.Given.{IsFirstUnmet, IsGiven}
use Rattle.ds_latch.specs.Node.{Split}
use Rattle.ds_latch.specs.Plan.{IsPlan, Reorders, split_events}
use Rattle.ds_accept.specs.Accept.{IsAcceptable, extra_events, others_of}
use Rattle.ds_accept.specs.Codes.{Code, event_code, IsMissingCode, StandsAtCode}
use Rattle.ds_accept.specs.Fault.{IsFirstWithout, ShowsLeast}
use Rattle.ds_accept.specs.declared.fault.AcceptFault.{AcceptFault}
use Rattle.ds_accept.specs.declared.fault.AcceptFault.TheVariants as fault
use Rattle.ds_accept.specs.declared.numbered.Numbered.{Numbered}
use Rattle.ds_accept.specs.declared.places.NoPlace.{NoPlace}
use Rattle.ds_accept.specs.declared.places.NoPlace.TheVariants.{First, Memory}

-- for each event of a list its place in another
pub record AreEventPlaces (events others : List Event) (places : List ℕ) : Type 0 where
  pub one_each : length places ≡ length events
  pub inside : All (λ place. place < length others) places
  pub same : (k : ℕ) (d : Event) → k < length events
      → slice_index_or others (slice_index places k) d ≡ slice_index_or events k d

-- the first event that has no place, or want of memory
abbrev pub IsNoPlace : List Event → List Event → NoPlace → Type 0
IsNoPlace events others (First k) = IsFirstWithout (Contains others) events k
IsNoPlace events others Memory = ⊤

-- an arc with its ends at other places
abbrev pub moved : (ℕ → ℕ) → Arc → Arc
moved place arc =
    record { source = place arc.source; target = place arc.target; tokens = arc.tokens }

-- an arc leads from one place to another, with at most so many tokens
abbrev pub IsArcWithin : ℕ → ℕ → ℕ → Arc → Type 0
IsArcWithin from to tokens arc = (arc.source ≡ from) × (arc.target ≡ to) × (arc.tokens ≤ tokens)

-- one of the arcs has the ends of an order, and at most its tokens
abbrev pub IsGivenBy : List Arc → Arc → Type 0
IsGivenBy arcs order = Any (IsArcWithin order.source order.target order.tokens) arcs

-- the orders that no arc gives, in order
pub record AreLeft (orders arcs left : List Arc) : Type 0 where
  pub some : All (Contains orders) left
  pub sorted : AllPairs StandsBefore left
  pub lack : All (λ order. ¬ IsGivenBy arcs order) left
  pub others : All (λ order. IsGivenBy arcs order ⊎ Contains left order) orders

-- these orders, with the places of their ends
pub record AreAsked (orders arcs : List Arc) (place : ℕ → ℕ) (asked : List Arc) : Type 0 where
  pub left : List Arc
  pub are : AreLeft orders arcs left
  pub moved : asked ≡ map (moved place) left

-- walks give the orders, and the events have ranks
pub record AreWalked (g : Graph) (asked : List Arc) : Type 0 where
  pub given : All (IsGiven g) asked
  pub ranks : List ℕ
  pub are : AreRanks g ranks

-- the fault that no walk gives an order, or want of memory
abbrev pub IsMissing : Graph → Arc → AcceptFault → Type 0
IsMissing g order (fault.MissingEvent event) = ⊥
IsMissing g order (fault.MissingOrder from to tokens least numbers) =
    (order ≡ record { source = from; target = to; tokens = tokens })
    × ShowsLeast g from to least numbers
IsMissing g order (fault.TokenFreeCycle cycle) = ⊥
IsMissing g order fault.Memory = ⊤

-- a fault that no walk gives one of the orders, or that arcs without tokens lead in a circle, or
-- want of memory
abbrev pub IsUnmet : Graph → List Arc → AcceptFault → Type 0
IsUnmet g asked (fault.MissingEvent event) = ⊥
IsUnmet g asked (fault.MissingOrder from to tokens least numbers) =
    (k : ℕ) × IsFirstUnmet g asked (Some k) × ShowsLeast g from to least numbers
    × HoldsAt (λ o. o ≡ record { source = from; target = to; tokens = tokens }) asked k
IsUnmet g asked (fault.TokenFreeCycle cycle) = All (IsGiven g) asked
    × IsCycle (HasFreeArc g) cycle
IsUnmet g asked fault.Memory = ⊤

-- the ends of an arc stand before those of another, by source and then by target
abbrev pub EndsBefore : Arc → Arc → Type 0
EndsBefore a b = (a.source < b.source) ⊎ ((a.source ≡ b.source) × (a.target < b.target))

-- a fault that a graph lacks an event of a node, or want of memory
abbrev pub IsLacking : List Event → List Event → AcceptFault → Type 0
IsLacking required events (fault.MissingEvent event) =
    (k : ℕ) × IsFirstWithout (Contains events) required k × HoldsAt (λ e. e ≡ event) required k
IsLacking required events (fault.MissingOrder from to tokens least numbers) = ⊥
IsLacking required events (fault.TokenFreeCycle cycle) = ⊥
IsLacking required events fault.Memory = ⊤

-- the number of an event behind these codes: its place among them, or else the next one behind the
-- events, where it is put
abbrev pub IsNumberOf : List Code → Event → List Event → List Event → ℕ → Type 0
IsNumberOf codes event events more number =
    (StandsAtCode codes (event_code event) number × (more ≡ events))
    ⊎ (IsMissingCode codes (event_code event) × (more ≡ events ++ event ∷ [])
    × (number ≡ length events))

-- these events first, then the others of a list, and for each of the list its place among these
pub record AreEventsNumbered (known events : List Event) (all : Numbered) : Type 0 where
  pub same : all.events ≡ known ++ others_of known events
  pub places : AreEventPlaces events all.events all.numbers.items

-- a graph with these events first and then all others of another one, and the arcs of that one
-- between their places
pub record IsMoved (g : Graph) (known : List Event) (to : Graph) : Type 0 where
  pub events : to.events ≡ known ++ others_of known g.events
  pub numbers : List ℕ
  pub are : AreEventPlaces g.events to.events numbers
  pub arcs : IsPermutation (map (moved (slice_index numbers)) g.arcs) to.arcs
  pub kept : IsKept to

-- the graph is acceptable, and is this one with the events of the nodes first and in their order
pub record IsOrdered (s : Split) (g to : Graph) : Type 0 where
  pub acceptable : IsAcceptable s g
  pub events : to.events ≡ split_events s ++ extra_events s g
  pub reorders : Reorders g to
  pub plan : IsPlan s to
  pub kept : IsKept to
