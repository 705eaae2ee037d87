use Rattle.std.proofs.Common.{◌≡◌, ◌∙◌, ◌<◌, ◌^◌, ℕ, List, Err, length, map, get_or, slice_index, arith, subst, sym, ap}
use Rattle.std.proofs.Math.ListN.{replicate}
use Rattle.std.proofs.lemmas.List.{get_or-replicate, length-replicate}
use Rattle.ds_marked.specs.declared.marked.Arc.{Arc}
use Rattle.ds_marked.specs.declared.marked.Event.{Event}
use Rattle.ds_rank.specs.declared.edge.Edge.{Edge}
use Rattle.ds_rank.specs.Order.{HasEdge}
use Rattle.ds_rank.specs.Free.{edge_of_arc}
use Rattle.ds_rank.proofs.RelatedOrders.{cycle_by}
use Rattle.ds_period.specs.Timing.{Leads}
use Rattle.ds_period.proofs.ClosedWalks.{cycle_closes, edge_by, ends_of, leads_from, none_closes, none_there, some_there}
use Rattle.ds_period.proofs.cyclic.has_cycle.Goals as goal

pub least_ranks-requires-clause-ends : goal.least_ranks-requires-clause-ends
least_ranks-requires-clause-ends c =
    let g = c.args.graph.now in
    let edges : c.as_slice-2.result.now ≡ map edge_of_arc c.args.graph.now.arcs =
    c.as_slice-2.ensures.value ∙ c.in_ok-edges.ensures ∙ ap (λ (xs : List Arc). map edge_of_arc xs) c.arcs.ensures.arcs in
    let events : length c.events.result.now ≡ length c.args.graph.now.events = ap (λ (xs : List Event). length xs) c.events.ensures.events in
    let floors : c.as_slice.result.now ≡ replicate {A = ℕ} (length c.events.result.now) 0 = c.as_slice.ensures.value ∙ c.in_ok-floors.ensures in
    let size : length c.as_slice.result.now ≡ length c.args.graph.now.events =
    ap (λ (xs : List ℕ). length xs) floors ∙ length-replicate (length c.events.result.now) 0 ∙ events in
    rw (edges, size) (ends_of g.arcs (length g.events) c.arcs.ensures.kept.ends)

pub least_ranks-requires-clause-few : goal.least_ranks-requires-clause-few
least_ranks-requires-clause-few c =
    let events : length c.events.result.now ≡ length c.args.graph.now.events = ap (λ (xs : List Event). length xs) c.events.ensures.events in
    let floors : c.as_slice.result.now ≡ replicate {A = ℕ} (length c.events.result.now) 0 = c.as_slice.ensures.value ∙ c.in_ok-floors.ensures in
    let size : length c.as_slice.result.now ≡ length c.args.graph.now.events =
    ap (λ (xs : List ℕ). length xs) floors ∙ length-replicate (length c.events.result.now) 0 ∙ events in
    rw size c.arcs.ensures.kept.few_events

pub least_ranks-requires-clause-room : goal.least_ranks-requires-clause-room
least_ranks-requires-clause-room c =
    let events : length c.events.result.now ≡ length c.args.graph.now.events = ap (λ (xs : List Event). length xs) c.events.ensures.events in
    let floors : c.as_slice.result.now ≡ replicate {A = ℕ} (length c.events.result.now) 0 = c.as_slice.ensures.value ∙ c.in_ok-floors.ensures in
    let size : length c.as_slice.result.now ≡ length c.events.result.now =
    ap (λ (xs : List ℕ). length xs) floors ∙ length-replicate (length c.events.result.now) 0 in
    let few : length c.args.graph.now.events < 2 ^ 32 = c.arcs.ensures.kept.few_events in
    λ v lt.
    let zero : slice_index c.as_slice.result.now v ≡ 0 =
    ap (λ (xs : List ℕ). slice_index xs v) floors ∙ get_or-replicate {A = ℕ} (length c.events.result.now) v 0 0 (omega (arith, lt, size)) in
    omega (arith, zero, size, events, few)

pub returns-in-Ok : goal.returns-in-Ok
returns-in-Ok c =
    let g = c.args.graph.now in
    let edges : c.as_slice-2.result.now ≡ map edge_of_arc c.args.graph.now.arcs =
    c.as_slice-2.ensures.value ∙ c.in_ok-edges.ensures ∙ ap (λ (xs : List Arc). map edge_of_arc xs) c.arcs.ensures.arcs in
    none_there g (none_closes g (λ v. get_or c.in-Ok.field-0.items v 0)
    (λ u v leads. c.in-Ok.ensures.ok.above u v (subst (λ (es : List Edge). HasEdge es u v) (sym edges) (edge_by g.arcs u v leads))))

pub returns-in-Err-Cycle : goal.returns-in-Err-Cycle
returns-in-Err-Cycle c =
    let g = c.args.graph.now in
    let edges : c.as_slice-2.result.now ≡ map edge_of_arc c.args.graph.now.arcs =
    c.as_slice-2.ensures.value ∙ c.in_ok-edges.ensures ∙ ap (λ (xs : List Arc). map edge_of_arc xs) c.arcs.ensures.arcs in
    let cycle = c.in-Err-Cycle.ensures.cycle c.in-Err-Cycle.field-0-0 (ap Err c.in-Err-Cycle.field-0-is) in
    some_there g (cycle_closes g c.in-Err-Cycle.field-0-0.items (cycle_by (HasEdge c.as_slice-2.result.now) (Leads g)
    (λ u v h. leads_from g.arcs u v (subst (λ (es : List Edge). HasEdge es u v) edges h)) c.in-Err-Cycle.field-0-0.items cycle))
