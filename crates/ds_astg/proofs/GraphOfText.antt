-- The graph of names and places.
use Rattle.std.proofs.Common.{◌≡◌, ◌≢◌, ℕ, zero, suc, ◌+◌, ◌<◌, ◌≤◌, false, not, List, [], ◌∷◌, ◌++◌, length, get_or, take, drop, slice_get, append_assoc, map, refl, sym, ◌∙◌, ap, subst, arith, inl, inr, All, AllPairs, Option, None, Some, IfSome, is_some, ◌&&◌, Result, Ok, Err, IfOk}
use Rattle.std.proofs.Math.Seq.{drop-cons}
use Rattle.std.proofs.lemmas.Bool.{cases_Bool}
use Rattle.std.proofs.lemmas.List.{append-nil, length-append, length-map}
use Rattle.std.specs.List.Sorted.{IsPermutation}
use Rattle.ds_marked.specs.Graph.{AreEnds, Graph, IsKept}
use Rattle.ds_marked.specs.declared.marked.Arc.{Arc}
use Rattle.ds_marked.specs.declared.marked.Event.{Event}
use Rattle.ds_marked.specs.declared.marked.Kind.{Kind}
use Rattle.ds_marked.specs.declared.marked.Kind.TheVariants.{Rise, Fall, Dummy as DummyKind}
use Rattle.ds_astg.specs.Place.{Key, Places, named, name_of}
use Rattle.ds_astg.specs.Place.Key.{Between}
use Rattle.ds_astg.specs.Read.{all_events, arc_of, named_events, lacking, lacks, or_zero, in_order, graph_of_parts}
use Rattle.ds_astg.specs.Sound.{HasEnds, ArePlaces}
use Rattle.ds_astg.specs.Signals.{Declared, count_events, event_count}
use Rattle.ds_astg.specs.declared.role.Role.{Role}
use Rattle.ds_astg.specs.declared.role.Role.TheVariants.{Signal, Dummy}
use Rattle.ds_astg.proofs.ArcOrder.{sorted_is}
use Rattle.ds_astg.proofs.DeclaredNames.{count_cons, count_few}
use Rattle.ds_astg.specs.declared.place.Place.{Place}
use Rattle.ds_astg.specs.declared.fault.AstgKind.TheVariants.{NotMarkedGraph}

-- one place that lacks nothing
pub lacking-next : (keys : List Key) (places : List Place) (i : ℕ) → i < length keys → i < length places
    → lacks (get_or places i (named 0)) ≡ false → lacking (drop i keys) (drop i places) ≡ lacking (drop (i + 1) keys) (drop (i + 1) places)
lacking-next keys places i key place whole =
    let e : i + 1 ≡ suc i = omega arith in
    rw (drop-cons keys i (Between 0 0) key, drop-cons places i (named 0) place, e) (rw whole refl)

-- no place lacks anything
whole_first : (key : Key) (keys : List Key) (place : Place) (places : List Place) → lacking (key ∷ keys) (place ∷ places) ≡ None → lacks place ≡ false
whole_first key keys place places none = elim (cases_Bool (lacks place)) [
  | inl e ↦ absurd (let h : lacking (key ∷ keys) (place ∷ places) ≡ Some (record { line = place.line; kind = NotMarkedGraph (name_of key) }) = rw e refl in let f = sym none ∙ h in cc)
  | inr e ↦ e
]

whole_rest : (key : Key) (keys : List Key) (place : Place) (places : List Place) → lacking (key ∷ keys) (place ∷ places) ≡ None → lacking keys places ≡ None
whole_rest key keys place places none =
    let h : lacking (key ∷ keys) (place ∷ places) ≡ lacking keys places = rw (whole_first key keys place places none) refl in sym h ∙ none

ends_of : (events : ℕ) (source target : Option ℕ) → not (is_some source && is_some target) ≡ false
    → IfSome source (λ u. u < events) → IfSome target (λ v. v < events) → (or_zero source < events) × (or_zero target < events)
ends_of events (Some u) (Some v) whole source target = (source, target)
ends_of events (Some u) None whole source target = absurd (cc)
ends_of events None target whole source also = absurd (cc)

pub ends_are : (events : ℕ) (keys : List Key) (places : List Place) → lacking keys places ≡ None → length keys ≡ length places
    → All (HasEnds events) places → AreEnds events (map arc_of places)
ends_are events keys [] whole each all k d inside = absurd (omega arith)
ends_are events [] (place ∷ places) whole each all k d inside = absurd (omega (arith, each))
ends_are events (key ∷ keys) (place ∷ places) whole each all zero d inside =
    let h = all 0 place (omega arith) in
    ends_of events place.source place.target (whole_first key keys place places whole) h.0 h.1
ends_are events (key ∷ keys) (place ∷ places) whole each all (suc k) d inside =
    ends_are events keys places (whole_rest key keys place places whole) (omega (arith, each)) (λ j e low. all (suc j) e (omega (arith, low))) k d (omega (arith, inside))

-- as many events as the names have
pub events_count : (names : List (List ℕ)) (roles : List Role) → length names ≡ length roles → length (all_events names roles) ≡ count_events roles
events_count [] [] each = refl
events_count [] (role ∷ roles) each = absurd (omega (arith, each))
events_count (name ∷ names) [] each = absurd (omega (arith, each))
events_count (name ∷ names) (role ∷ roles) each =
    let h = events_count names roles (omega (arith, each)) in
    let l = length-append (named_events role name) (all_events names roles) in
    let c = count_cons role roles in
    let own : length (named_events role name) ≡ event_count role = own_count role in
    omega (arith, h, l, c, own)
  where
    own_count : (r : Role) → length (named_events r name) ≡ event_count r
    own_count Signal = refl
    own_count Dummy = refl

-- one name more
one_more : (names : List (List ℕ)) (roles : List Role) (i : ℕ) (role : Role) → i < length names → slice_get roles i ≡ Some role
    → all_events (take (suc i) names) (take (suc i) roles) ≡ all_events (take i names) (take i roles) ++ named_events role (get_or names i [])
one_more [] roles i role inside is = absurd (omega arith)
one_more (name ∷ names) [] i role inside is = absurd (cc)
one_more (name ∷ names) (first ∷ roles) zero role inside is =
    append-nil (named_events first name) ∙ ap (λ (r : Role). named_events r name) (let e : first ≡ role = cc in e)
one_more (name ∷ names) (first ∷ roles) (suc i) role inside is =
    ap (λ (es : List Event). named_events first name ++ es) (one_more names roles i role (omega (arith, inside)) is)
    ∙ sym (append_assoc (named_events first name) (all_events (take i names) (take i roles)) (named_events role (get_or names i [])))

pub events-next : (names : List (List ℕ)) (roles : List Role) (i : ℕ) (role : Role) → i < length names → slice_get roles i ≡ Some role
    → all_events (take (i + 1) names) (take (i + 1) roles) ≡ all_events (take i names) (take i roles) ++ named_events role (get_or names i [])
events-next names roles i role inside is =
    ap (λ (n : ℕ). all_events (take n names) (take n roles)) (let e : i + 1 ≡ suc i = omega arith in e) ∙ one_more names roles i role inside is

-- the name of each event is one of the names
name_at : (names : List (List ℕ)) (roles : List Role) (k : ℕ) (d : Event) → k < length (all_events names roles)
    → (i : ℕ) × (i < length names) × (get_or names i [] ≡ (get_or (all_events names roles) k d).signal)
name_at [] roles k d inside = absurd (omega arith)
name_at (name ∷ names) [] k d inside = absurd (omega arith)
name_at (name ∷ names) (Signal ∷ roles) zero d inside = (0, omega arith, refl)
name_at (name ∷ names) (Signal ∷ roles) (suc zero) d inside = (0, omega arith, refl)
name_at (name ∷ names) (Signal ∷ roles) (suc (suc k)) d inside =
    let (i, less, is) = name_at names roles k d (omega (arith, inside)) in (suc i, omega (arith, less), is)
name_at (name ∷ names) (Dummy ∷ roles) zero d inside = (0, omega arith, refl)
name_at (name ∷ names) (Dummy ∷ roles) (suc k) d inside =
    let (i, less, is) = name_at names roles k d (omega (arith, inside)) in (suc i, omega (arith, less), is)

-- another name has other events
apart : (name : List ℕ) (names : List (List ℕ)) (roles : List Role) → AllPairs (λ a b. a ≢ b) (name ∷ names) → (kind : Kind) (k : ℕ) (d : Event)
    → k < length (all_events names roles) → record { signal = name; kind = kind } ≢ get_or (all_events names roles) k d
apart name names roles distinct kind k d inside e =
    let (i, less, is) = name_at names roles k d inside in
    distinct 0 (suc i) [] (omega arith) (omega (arith, less)) (ap (λ (v : Event). v.signal) e ∙ sym is)

pub events_distinct : (names : List (List ℕ)) (roles : List Role) → AllPairs (λ a b. a ≢ b) names → AllPairs (λ a b. a ≢ b) (all_events names roles)
events_distinct [] roles distinct i j d below inside = absurd (omega arith)
events_distinct (name ∷ names) [] distinct i j d below inside = absurd (omega arith)
events_distinct (name ∷ names) (role ∷ roles) distinct i zero d below inside = absurd (omega arith)
events_distinct (name ∷ names) (Signal ∷ roles) distinct zero (suc zero) d below inside = λ e. rises (ap (λ (v : Event). v.kind) e)
  where
    rises : Rise ≡ Fall → ⊥
    rises e = cc
events_distinct (name ∷ names) (Signal ∷ roles) distinct zero (suc (suc j)) d below inside = apart name names roles distinct Rise j d (omega (arith, inside))
events_distinct (name ∷ names) (Signal ∷ roles) distinct (suc zero) (suc zero) d below inside = absurd (omega arith)
events_distinct (name ∷ names) (Signal ∷ roles) distinct (suc zero) (suc (suc j)) d below inside = apart name names roles distinct Fall j d (omega (arith, inside))
events_distinct (name ∷ names) (Signal ∷ roles) distinct (suc (suc i)) (suc zero) d below inside = absurd (omega arith)
events_distinct (name ∷ names) (Signal ∷ roles) distinct (suc (suc i)) (suc (suc j)) d below inside =
    events_distinct names roles (λ k l e low high. distinct (suc k) (suc l) e (omega arith) (omega (arith, high))) i j d (omega arith) (omega (arith, inside))
events_distinct (name ∷ names) (Dummy ∷ roles) distinct zero (suc j) d below inside = apart name names roles distinct DummyKind j d (omega (arith, inside))
events_distinct (name ∷ names) (Dummy ∷ roles) distinct (suc i) (suc j) d below inside =
    events_distinct names roles (λ k l e low high. distinct (suc k) (suc l) e (omega arith) (omega (arith, high))) i j d (omega arith) (omega (arith, inside))

module _ (signals : Declared) (ps : Places) (events : List Event) (arcs : List Arc) (each : length signals.names ≡ length signals.roles)
    (events_are : events ≡ all_events signals.names signals.roles) (arcs_are : arcs ≡ map arc_of ps.places) where
  size : length events ≡ count_events signals.roles
  size = ap (λ (es : List Event). length es) events_are ∙ events_count signals.names signals.roles each

  pub ends_in : ArePlaces (count_events signals.roles) ps → lacking ps.keys ps.places ≡ None → AreEnds (length events) arcs
  ends_in sound whole = subst (λ (n : ℕ). AreEnds n arcs) (sym size) (subst (AreEnds (count_events signals.roles)) (sym arcs_are)
      (ends_are (count_events signals.roles) ps.keys ps.places whole sound.each sound.ends))

  pub once_in : AllPairs (λ a b. a ≢ b) signals.names → AllPairs (λ a b. a ≢ b) events
  once_in distinct = subst (λ (es : List Event). AllPairs (λ a b. a ≢ b) es) (sym events_are) (events_distinct signals.names signals.roles distinct)

  pub few_in : ArePlaces (count_events signals.roles) ps → length signals.names ≤ 65536 → (length events < 4294967296) × (length arcs < 4294967296)
  few_in sound few =
      let n : length arcs ≡ length ps.places = ap (λ (xs : List Arc). length xs) arcs_are ∙ length-map ps.places arc_of in
      let c = count_few signals.roles in
      (omega (arith, size, few, c, each), omega (arith, n, sound.each, sound.few))

  pub marked_is : {E : Type 0} (r : Result Graph E) → IfOk r (λ g. g.events ≡ events) → IfOk r (λ g. IsPermutation arcs g.arcs) → IfOk r (λ g. IsKept g)
      → IfOk r (λ g. g ≡ graph_of_parts signals ps)
  marked_is (Err e) kept_events moved kept = tt
  marked_is (Ok g) kept_events moved kept =
      ap (λ (es : List Event). record { events = es; arcs = g.arcs }) (kept_events ∙ events_are)
      ∙ ap (λ (xs : List Arc). record { events = all_events signals.names signals.roles; arcs = xs })
      (sorted_is arcs g.arcs moved kept.sorted ∙ ap in_order arcs_are)
