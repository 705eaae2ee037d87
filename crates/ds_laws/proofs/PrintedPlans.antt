-- A plan's graph is the graph of the plan that is made of it.
use Rattle.std.proofs.Common.{◌≡◌, ◌≢◌, ◌∙◌, ◌+◌, List, [], ◌∷◌, ◌++◌, length, map, not, inl, inr, refl, arith, ap, sym, subst, length-append}
use Rattle.std.specs.Prelude.{AllPairs, Contains, IsPermutation}
use Rattle.std.specs.List.{list_any}
use Rattle.std.proofs.lemmas.Bool.{cases_Bool}
use Rattle.std.proofs.lemmas.List.{get_or-append-add, get_or_append_left}
use Rattle.std.proofs.lemmas.List.Elements.{filter-append}
use Rattle.std.proofs.lemmas.List.Sorted.{IsPermutation-refl}
use Rattle.ds_marked.specs.Graph.{Graph, IsKept}
use Rattle.ds_marked.specs.declared.marked.Arc.{Arc}
use Rattle.ds_marked.specs.declared.marked.Event.{Event}
use Rattle.ds_latch.specs.Node.{Split}
use Rattle.ds_latch.specs.Plan.{IsPlan, Reorders, split_events}
use Rattle.ds_accept.specs.Accept.{extra_events, is_same_event, others_of}
use Rattle.ds_accept.proofs.SubsetLength.{in_head, in_tail}
use Rattle.ds_accept.proofs.Others.{has, stands, stands_in}
use Rattle.ds_accept.proofs.PlansAcceptable.{plans_are_acceptable_lem}
use Rattle.ds_stage.specs.PlanStage.{IsNamedPlan}

-- of events that all stand in a list, none is left
others_none : (known events : List Event) → ((event : Event) → Contains events event → Contains known event) → others_of known events ≡ []
others_none known [] within = refl
others_none known (event ∷ events) within =
    rw (stands known event (within event (in_head event events))) (others_none known events (λ other at. within other (in_tail event events other at)))

-- of events that do not, all are
others_all : (known events : List Event) → ((event : Event) → Contains events event → ¬ Contains known event) → others_of known events ≡ events
others_all known [] fresh = refl
others_all known (event ∷ events) fresh = elim (cases_Bool (stands_in known event)) [
  | inl there ↦ absurd (fresh event (in_head event events) (has known event there))
  | inr other ↦ rw other (ap (λ (es : List Event). event ∷ es) (others_all known events (λ other at. fresh other (in_tail event events other at))))
]

-- of events behind those of the list, none of which is there twice, these
others_behind : (known extra : List Event) → AllPairs (λ a b. a ≢ b) (known ++ extra) → others_of known (known ++ extra) ≡ extra
others_behind known extra once =
    filter-append (λ (event : Event). not (list_any (is_same_event event) known)) known extra
    ∙ (ap (λ (es : List Event). es ++ others_of known extra) (others_none known known (λ event at. at))
    ∙ others_all known extra (λ event (j, low, is) (i, inside, at).
    let long : length (known ++ extra) ≡ length known + length extra = length-append known extra in
    once i (length known + j) event (omega (arith, inside)) (omega (arith, low, long))
    (get_or_append_left known extra event i inside ∙ (at ∙ (sym is ∙ sym (get_or-append-add known extra j event))))))

-- arcs whose ends stay
arcs_stay : (arcs : List Arc) → map (λ (arc : Arc). let r : Arc = record { source = arc.source; target = arc.target; tokens = arc.tokens } in r) arcs ≡ arcs
arcs_stay [] = refl
arcs_stay (arc ∷ arcs) = ap (λ (rest : List Arc). arc ∷ rest) (arcs_stay arcs)

-- a graph keeps its order
same_order : (g : Graph) → Reorders g g
same_order g = record {
  place = λ v. v;
  as_many = refl;
  events = λ v d inside. (inside, refl);
  arcs = subst (λ (arcs : List Arc). IsPermutation arcs g.arcs) (sym (arcs_stay g.arcs)) (IsPermutation-refl g.arcs);
}

-- the plan of a graph with the events of the nodes first has that graph
pub own_plan : (s : Split) (g : Graph) → IsKept g → IsPlan s g → IsNamedPlan s g (record { split = s; graph = g })
own_plan s g kept plan =
    let once : AllPairs (λ (a b : Event). a ≢ b) (split_events s ++ plan.extra) = subst (AllPairs (λ (a b : Event). a ≢ b)) plan.events kept.once in
    let extra : extra_events s g ≡ plan.extra = ap (others_of (split_events s)) plan.events ∙ others_behind (split_events s) plan.extra once in
    record {
      acceptable = plans_are_acceptable_lem s g plan;
      plan = record {
        split = refl;
        events = plan.events ∙ ap (λ (es : List Event). split_events s ++ es) (sym extra);
        reorders = same_order g;
      };
      graph_kept = kept;
      plan_kept = kept;
    }
