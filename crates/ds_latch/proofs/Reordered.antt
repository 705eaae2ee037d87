-- A legal list is one of the same graph with its events at other places.
use Rattle.std.proofs.Common.{◌≡◌, ℕ, ◌+◌, ◌<◌, ◌≤◌, List, [], ◌∷◌, length, get_or, map, refl, arith, ap, sym, ◌∙◌, inl, inr}
use Rattle.std.specs.Prelude.{All}
use Rattle.std.proofs.lemmas.Bool.{cases_eq, cases_lt}
use Rattle.std.proofs.lemmas.List.Elements.{All-map}
use Rattle.std.proofs.lemmas.List.Sorted.{All-permutation}
use Rattle.ds_marked.specs.Graph.{Graph, IsEnabled, IsKept, IsLegal, IsLegalFrom, counted}
use Rattle.ds_marked.specs.declared.marked.Arc.{Arc}
use Rattle.ds_marked.specs.declared.marked.Event.{Event}
use Rattle.ds_marked.specs.declared.marked.Kind.TheVariants.{Rise}
use Rattle.ds_marked.proofs.CountLemmas.{counted-same, counted-other}
use Rattle.ds_latch.specs.Plan.{Reorders}

module _ (from to : Graph) (kept : IsKept from) (r : Reorders from to) (limit : ℕ) where
  none : Event
  none = record { signal = []; kind = Rise }

  -- events at one place are one
  one_place : (u v : ℕ) → u < length from.events → v < length from.events → r.place u ≡ r.place v → u ≡ v
  one_place u v is_u is_v same =
      let at : get_or from.events u none ≡ get_or from.events v none =
      sym (r.events u none is_u).1 ∙ (ap (λ (k : ℕ). get_or to.events k none) same ∙ (r.events v none is_v).1) in
      elim (cases_eq u v) [
        | inl e ↦ e
        | inr ne ↦ elim (cases_lt u v) [
          | inl low ↦ absurd (kept.once u v none low is_v at)
          | inr high ↦ absurd (kept.once v u none (omega arith) is_u (sym at))
        ]
      ]

  -- counts at the other places
  abbrev AreMoved : (ℕ → ℕ) → (ℕ → ℕ) → Type 0
  AreMoved count moved = (u : ℕ) → u < length from.events → moved (r.place u) ≡ count u

  counted_moved : (count moved : ℕ → ℕ) → AreMoved count moved → (v : ℕ) → v < length from.events → AreMoved (counted v count) (counted (r.place v) moved)
  counted_moved count moved are v is_v u is_u = elim (cases_eq u v) [
    | inl e ↦ counted-same (r.place v) (r.place u) moved (ap r.place e) ∙ (ap (λ (n : ℕ). n + 1) (are u is_u) ∙ sym (counted-same v u count e))
    | inr ne ↦ counted-other (r.place v) (r.place u) moved (λ same. ne (one_place u v is_u is_v same)) ∙ (are u is_u ∙ sym (counted-other v u count ne))
  ]

  -- an arc with its ends at their places
  abbrev moved_arc : Arc → Arc
  moved_arc arc = record { source = r.place arc.source; target = r.place arc.target; tokens = arc.tokens }

  -- an arc into an event has a token for it
  abbrev IsReady : (ℕ → ℕ) → ℕ → Arc → Type 0
  IsReady moved v arc = arc.target ≡ r.place v → moved (r.place v) + 1 ≤ moved arc.source + arc.tokens

  ready_moved : (count moved : ℕ → ℕ) → AreMoved count moved → (v : ℕ) → IsEnabled from limit count v → All (λ arc. IsReady moved v (moved_arc arc)) from.arcs
  ready_moved count moved are v enabled j d inside same =
      let arc : Arc = get_or from.arcs j d in
      let ends : (arc.source < length from.events) × (arc.target < length from.events) = kept.ends j d inside in
      let target : arc.target ≡ v = one_place arc.target v ends.1 enabled.event same in
      let ready : count v + 1 ≤ count arc.source + arc.tokens = enabled.ready j d inside target in
      let here : moved (r.place v) ≡ count v = are v enabled.event in
      let there : moved (r.place arc.source) ≡ count arc.source = are arc.source ends.0 in
      omega arith

  enabled_moved : (count moved : ℕ → ℕ) → AreMoved count moved → (v : ℕ) → IsEnabled from limit count v → IsEnabled to limit moved (r.place v)
  enabled_moved count moved are v enabled =
      let here : moved (r.place v) ≡ count v = are v enabled.event in
      record {
        event = (r.events v none enabled.event).0;
        below = (let low : count v < limit = enabled.below in omega arith);
        ready = All-permutation (IsReady moved v) (map moved_arc from.arcs) to.arcs r.arcs
            (All-map (IsReady moved v) moved_arc from.arcs (ready_moved count moved are v enabled));
      }

  moved_is_legal : (events : List ℕ) (count moved : ℕ → ℕ) → AreMoved count moved → IsLegalFrom from limit count events → IsLegalFrom to limit moved (map r.place events)
  moved_is_legal [] count moved are legal = tt
  moved_is_legal (v ∷ events) count moved are (enabled, legal) =
      (enabled_moved count moved are v enabled, moved_is_legal events (counted v count) (counted (r.place v) moved) (counted_moved count moved are v enabled.event) legal)

  pub reordered_is_legal : (events : List ℕ) → IsLegal from limit events → IsLegal to limit (map r.place events)
  reordered_is_legal events legal = moved_is_legal events (λ _. 0) (λ _. 0) (λ u is_u. refl) legal
