-- A graph has one plan at most.
use Rattle.std.proofs.Common.{◌≡◌, ◌≢◌, ◌⊎◌, inl, inr, ℕ, ◌<◌, List, length, get_or, map, refl, sym, ◌∙◌, ap, subst, arith, IsPermutation}
use Rattle.std.proofs.lemmas.Bool.{cases_eq}
use Rattle.std.proofs.lemmas.List.{get_or-map, length-map, same_lists}
use Rattle.ds_marked.specs.Graph.{Graph, IsKept, StandsBefore}
use Rattle.ds_marked.specs.declared.marked.Arc.{Arc}
use Rattle.ds_marked.specs.declared.marked.Event.{Event}
use Rattle.ds_latch.specs.Node.{Split}
use Rattle.ds_latch.specs.Plan.{Planned, Reorders}
use Rattle.ds_accept.specs.Laws.{OnePlan}
use Rattle.ds_accept.specs.Steps.{moved}
use Rattle.ds_accept.proofs.SubsetLength.{one_place, some_event}
use Rattle.ds_accept.proofs.OneSortedList.{same_sorted}

-- an arc by its parts
abbrev arc : ℕ → ℕ → ℕ → Arc
arc u v tokens = record { source = u; target = v; tokens = tokens }

same_arc : (a b : Arc) → a.source ≡ b.source → a.target ≡ b.target → a.tokens ≡ b.tokens → a ≡ b
same_arc a b e f g = ap (λ (u : ℕ). arc u a.target a.tokens) e ∙ (ap (λ (v : ℕ). arc b.source v a.tokens) f ∙ ap (arc b.source b.target) g)

pub same_arc_decided : (a b : Arc) → (a ≡ b) ⊎ (a ≢ b)
same_arc_decided a b = elim (cases_eq a.source b.source) [
  | inl e ↦ elim (cases_eq a.target b.target) [
    | inl f ↦ elim (cases_eq a.tokens b.tokens) [
      | inl g ↦ inl (same_arc a b e f g)
      | inr ne ↦ inr (λ is. ne (ap (λ (x : Arc). x.tokens) is))
    ]
    | inr ne ↦ inr (λ is. ne (ap (λ (x : Arc). x.target) is))
  ]
  | inr ne ↦ inr (λ is. ne (ap (λ (x : Arc). x.source) is))
]

pub stands_before-antisym : (a b : Arc) → StandsBefore a b → StandsBefore b a → a ≡ b
stands_before-antisym a b (inl p) (inl q) = absurd (omega (p, q, arith))
stands_before-antisym a b (inl p) (inr (q, rest)) = absurd (omega (p, q, arith))
stands_before-antisym a b (inr (p, rest)) (inl q) = absurd (omega (p, q, arith))
stands_before-antisym a b (inr (p, inl x)) (inr (q, inl y)) = absurd (omega (x, y, arith))
stands_before-antisym a b (inr (p, inl x)) (inr (q, inr (y, u))) = absurd (omega (x, y, arith))
stands_before-antisym a b (inr (p, inr (x, t))) (inr (q, inl y)) = absurd (omega (x, y, arith))
stands_before-antisym a b (inr (p, inr (x, t))) (inr (q, inr (y, u))) = same_arc a b p x (omega (t, u, arith))

module _ (g one other : Graph) (kept : IsKept g) (first : IsKept one) (second : IsKept other)
    (events : one.events ≡ other.events) (r : Reorders g one) (q : Reorders g other) where
  -- an event has the same place in both
  places_same : (v : ℕ) → v < length g.events → r.place v ≡ q.place v
  places_same v inside =
      let (low, is) = r.events v some_event inside in
      let (high, same) = q.events v some_event inside in
      one_place one.events first.once (r.place v) (q.place v) some_event low (rw events high)
      (is ∙ (sym same ∙ ap (λ (es : List Event). get_or es (q.place v) some_event) (sym events)))

  moved_same : map (moved r.place) g.arcs ≡ map (moved q.place) g.arcs
  moved_same = same_lists (map (moved r.place) g.arcs) (map (moved q.place) g.arcs)
      (length-map g.arcs (moved r.place) ∙ sym (length-map g.arcs (moved q.place))) (λ k d below.
      let inside : k < length g.arcs = subst (λ (n : ℕ). k < n) (length-map g.arcs (moved r.place)) below in
      let both : ((get_or g.arcs k d).source < length g.events) × ((get_or g.arcs k d).target < length g.events) = kept.ends k d inside in
      get_or-map (moved r.place) g.arcs k d d inside ∙ (same_arc (moved r.place (get_or g.arcs k d)) (moved q.place (get_or g.arcs k d))
      (places_same (get_or g.arcs k d).source both.0) (places_same (get_or g.arcs k d).target both.1) refl ∙ sym (get_or-map (moved q.place) g.arcs k d d inside)))

  arcs_same : one.arcs ≡ other.arcs
  arcs_same = same_sorted same_arc_decided StandsBefore stands_before-antisym (map (moved r.place) g.arcs) one.arcs other.arcs first.sorted second.sorted r.arcs
      (subst (λ (arcs : List Arc). IsPermutation arcs other.arcs) (sym moved_same) q.arcs)

same_plan : (one other : Planned) → one.split ≡ other.split → one.graph.events ≡ other.graph.events → one.graph.arcs ≡ other.graph.arcs → one ≡ other
same_plan one other e f g =
    ap (λ (s : Split). record { split = s; graph = one.graph }) e
    ∙ (ap (λ (es : List Event). record { split = other.split; graph = record { events = es; arcs = one.graph.arcs } }) f
    ∙ ap (λ (arcs : List Arc). record { split = other.split; graph = record { events = other.graph.events; arcs = arcs } }) g)

pub one_plan_lem : OnePlan
one_plan_lem s g one other kept first second is also =
    let events : one.graph.events ≡ other.graph.events = is.events ∙ sym also.events in
    same_plan one other (is.split ∙ sym also.split) events (arcs_same g one.graph other.graph kept first second events is.reorders also.reorders)
