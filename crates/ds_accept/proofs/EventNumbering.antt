-- The numbers of events, those of the nodes and then the others.
use Rattle.std.proofs.Common.{◌≡◌, ◌≢◌, inl, inr, ℕ, ◌+◌, ◌^◌, ◌<◌, ◌≤◌, Bool, true, false, not, List, [], ◌∷◌, ◌++◌, length, get_or, map, take, drop, refl, sym, ◌∙◌, ap, subst, arith, length-append, All, AllPairs, Contains, IsPermutation, slice_index, Result, Ok, Err}
use mathlib.Core.Bool.{cond}
use Rattle.std.specs.Prelude.{IfOk}
use Rattle.std.proofs.lemmas.Bool.{cases_Bool}
use Rattle.std.proofs.lemmas.List.{append-nil, append_assoc, get_or_append_left, get_or_push, length-map, take-append-drop, take_all}
use Rattle.std.proofs.lemmas.List.Elements.{filter-append, filter_more}
use Rattle.ds_marked.specs.Graph.{Graph, AreEnds, IsKept}
use Rattle.ds_marked.specs.declared.marked.Arc.{Arc}
use Rattle.ds_marked.specs.declared.marked.Event.{Event}
use Rattle.ds_accept.specs.Accept.{others_of}
use Rattle.ds_accept.specs.Codes.{event_code, IsMissingCode, StandsAtCode}
use Rattle.ds_accept.specs.Steps.{AreEventsNumbered, AreEventPlaces, IsMoved, IsNumberOf, moved}
use Rattle.ds_accept.specs.declared.numbered.Numbered.{Numbered}
use Rattle.ds_accept.proofs.Others.{all_fit, all_once, has, stands as in_list, stands_in}
use Rattle.ds_accept.proofs.EventPlaces.{ArePlacedTo, Stands, all_placed, missing, moved_ends, one_more_at, stands, with_more}

-- the first events have numbers among these
pub record AreNumberedTo (known graph events : List Event) (k : ℕ) (numbers : List ℕ) : Type 0 where
  pub same : events ≡ known ++ others_of known (take k graph)
  pub placed : ArePlacedTo graph events k numbers

-- whether an event is none of these
abbrev is_other : List Event → Event → Bool
is_other known event = not (stands_in known event)

module _ (known graph : List Event) (k : ℕ) (e : Event) (low : k < length graph) (is : e ≡ get_or graph k e) where
  others_step : (b : Bool) → stands_in known e ≡ b → others_of known (take (k + 1) graph) ≡ others_of known (take k graph) ++ cond (not b) (e ∷ []) []
  others_step b told =
      filter_more (is_other known) graph k e low
      ∙ (ap (λ (x : Event). others_of known (take k graph) ++ cond (is_other known x) (x ∷ []) []) (sym is)
      ∙ ap (λ (c : Bool). others_of known (take k graph) ++ cond (not c) (e ∷ []) []) told)

  -- an event that stands there is none of the others
  others_same : Contains known e → others_of known (take (k + 1) graph) ≡ others_of known (take k graph)
  others_same there = others_step true (in_list known e there) ∙ append-nil (others_of known (take k graph))

  -- else it stands behind them
  others_longer : (¬ Contains known e) → others_of known (take (k + 1) graph) ≡ others_of known (take k graph) ++ e ∷ []
  others_longer none = elim (cases_Bool (stands_in known e)) [
    | inl told ↦ absurd (none (has known e told))
    | inr told ↦ others_step false told
  ]

  module _ (events : List Event) (numbers : List ℕ) (before : AreNumberedTo known graph events k numbers) where
    kept_so : (n : ℕ) → StandsAtCode (map event_code known) (event_code e) n → AreNumberedTo known graph events (k + 1) (numbers ++ n ∷ [])
    kept_so n code =
        let at : Stands known e n = stands known e n code in
        let there : Contains known e = (n, at.inside, at.is e) in
        let size : length events ≡ length known + length (others_of known (take k graph)) = ap (λ (es : List Event). length es) before.same ∙ length-append known (others_of known (take k graph)) in
        let also : Stands events e n = record {
          inside = (let inside : n < length known = at.inside in omega (inside, size, arith));
          is = λ d. ap (λ (es : List Event). get_or es n d) before.same ∙ (get_or_append_left known (others_of known (take k graph)) d n at.inside ∙ at.is d);
        } in record {
          same = before.same ∙ ap (λ (xs : List Event). known ++ xs) (sym (others_same there));
          placed = one_more_at graph events k numbers before.placed low e is n also;
        }

    put_behind : (n : ℕ) → IsMissingCode (map event_code known) (event_code e) → n ≡ length events
        → AreNumberedTo known graph (events ++ e ∷ []) (k + 1) (numbers ++ n ∷ [])
    put_behind n none last =
        let size : length (events ++ e ∷ []) ≡ length events + 1 = length-append events (e ∷ []) in
        let at : Stands (events ++ e ∷ []) e n = record { inside = omega (size, last, arith); is = λ d. get_or_push events e d n (sym last) } in record {
          same = ap (λ (xs : List Event). xs ++ e ∷ []) before.same ∙ (append_assoc known (others_of known (take k graph)) (e ∷ [])
              ∙ ap (λ (xs : List Event). known ++ xs) (sym (others_longer (missing known e none))));
          placed = one_more_at graph (events ++ e ∷ []) k numbers (with_more graph events k numbers before.placed (e ∷ [])) low e is n at;
        }

    -- an event more has its number
    pub one_more : (more : List Event) (n : ℕ) → IsNumberOf (map event_code known) e events more n → AreNumberedTo known graph more (k + 1) (numbers ++ n ∷ [])
    one_more more n (inl (code, same)) = subst (λ (es : List Event). AreNumberedTo known graph es (k + 1) (numbers ++ n ∷ [])) (sym same) (kept_so n code)
    one_more more n (inr (none, longer, last)) = subst (λ (es : List Event). AreNumberedTo known graph es (k + 1) (numbers ++ n ∷ [])) (sym longer) (put_behind n none last)

    -- and there is room for it
    pub in_room : length known + length (others_of known graph) < 2 ^ 32 → (more : List Event) (n : ℕ) → IsNumberOf (map event_code known) e events more n → n < 2 ^ 32
    in_room few more n number =
        let all : others_of known graph ≡ others_of known (take k graph) ++ others_of known (drop k graph)
        = ap (λ (es : List Event). others_of known es) (sym (take-append-drop k graph)) ∙ filter-append (is_other known) (take k graph) (drop k graph) in
        let sum : length (others_of known graph) ≡ length (others_of known (take k graph)) + length (others_of known (drop k graph))
        = ap (λ (es : List Event). length es) all ∙ length-append (others_of known (take k graph)) (others_of known (drop k graph)) in
        let size : length events ≡ length known + length (others_of known (take k graph)) = ap (λ (es : List Event). length es) before.same ∙ length-append known (others_of known (take k graph)) in
        elim number [
          | inl (code, same) ↦ (
              let inside : n < length (map event_code known) = code.inside in
              let below : n < length known = rw (length-map known event_code) at inside in
              omega (below, few, arith))
          | inr (none, longer, last) ↦ omega (last, size, sum, few, arith)
        ]

-- all events have numbers
pub all_numbered : (known graph events : List Event) (k : ℕ) (numbers : List ℕ) → k ≡ length graph → AreNumberedTo known graph events k numbers
    → (all : Numbered) → all.events ≡ events → all.numbers.items ≡ numbers → AreEventsNumbered known graph all
all_numbered known graph events k numbers end are all events_are numbers_are = record {
  same = events_are ∙ (are.same ∙ ap (λ (es : List Event). known ++ others_of known es) (take_all k graph (omega (end, arith))));
  places = subst (λ (ns : List ℕ). AreEventPlaces graph all.events ns) (sym numbers_are)
      (subst (λ (es : List Event). AreEventPlaces graph es numbers) (sym events_are) (all_placed graph events k numbers are.placed end));
}

-- at first none has
pub none_numbered : (known graph events : List Event) (numbers : List ℕ) → events ≡ known → numbers ≡ [] → AreNumberedTo known graph events 0 numbers
none_numbered known graph events numbers is empty = subst (AreNumberedTo known graph events 0) (sym empty) (record {
  same = is ∙ sym (append-nil known);
  placed = record {
    one_each = refl;
    inside = λ j d low. absurd (omega (low, arith));
    same = λ j d low. absurd (omega (low, arith));
  };
})

module _ (g required : Graph) (kept : IsKept g) (also : IsKept required) (there : All (Contains g.events) required.events) where
  -- there is room for all events
  pub all_in_room : length required.events + length (others_of required.events g.events) < 2 ^ 32
  all_in_room =
      let fit : length required.events + length (others_of required.events g.events) ≤ length g.events = all_fit required.events g.events also.once kept.once there in
      let few : length g.events < 2 ^ 32 = kept.few_events in
      omega (fit, few, arith)

  module _ (events : List Event) (numbers : List ℕ) (same : events ≡ required.events ++ others_of required.events g.events) (places : AreEventPlaces g.events events numbers)
      (arcs : List Arc) (are : arcs ≡ map (moved (slice_index numbers)) g.arcs) where
    -- and the graph of them can be made
    pub made_ends : AreEnds (length events) arcs
    made_ends = moved_ends g events numbers places kept.ends arcs are events refl

    pub made_once : AllPairs (λ a b. a ≢ b) events
    made_once = subst (AllPairs (λ a b. a ≢ b)) (sym same) (all_once required.events g.events also.once kept.once)

    pub made_few : (length events < 2 ^ 32) × (length arcs < 2 ^ 32)
    made_few =
        let size : length events ≡ length required.events + length (others_of required.events g.events) = ap (λ (es : List Event). length es) same ∙ length-append required.events (others_of required.events g.events) in
        let room : length required.events + length (others_of required.events g.events) < 2 ^ 32 = all_in_room in
        let count : length arcs ≡ length g.arcs = ap (λ (xs : List Arc). length xs) are ∙ length-map g.arcs (moved (slice_index numbers)) in
        let few : length g.arcs < 2 ^ 32 = kept.few_arcs in
        (omega (size, room, arith), omega (count, few, arith))

    pub is_moved : (to : Graph) → to.events ≡ events → IsPermutation arcs to.arcs → IsKept to → IsMoved g required.events to
    is_moved to events_are permuted to_kept = record {
      events = events_are ∙ same;
      numbers = numbers;
      are = subst (λ (es : List Event). AreEventPlaces g.events es numbers) (sym events_are) places;
      arcs = subst (λ (xs : List Arc). IsPermutation xs to.arcs) are permuted;
      kept = to_kept;
    }

    -- so it is made of them
    pub made : {E : Type 0} (result : Result Graph E) → IfOk result (λ to. to.events ≡ events) → IfOk result (λ to. IsPermutation arcs to.arcs)
        → IfOk result (λ to. IsKept to) → IfOk result (IsMoved g required.events)
    made (Ok to) events_are permuted to_kept = is_moved to events_are permuted to_kept
    made (Err e) events_are permuted to_kept = tt
