use Rattle.std.proofs.Common.{◌≡◌, ◌∙◌, ◌<◌, ◌^◌, ℕ, List, length, ap, sym, subst, arith, inl, inr, Err}
use Rattle.std.proofs.Math.ListN.{replicate}
use Rattle.std.specs.List.{slice_index}
use Rattle.std.proofs.lemmas.List.{take_all, get_or-replicate, length-replicate}
use Rattle.ds_marked.specs.declared.marked.Event.{Event}
use Rattle.ds_rank.specs.declared.edge.Edge.{Edge}
use Rattle.ds_rank.specs.Order.{HasEdge, IsCycle, IsRanks}
use Rattle.ds_rank.specs.declared.fault.RankFault.{RankFault}
use Rattle.ds_rank.specs.Free.{free_part}
use Rattle.ds_rank.specs.Rank.{HasFreeArc, IsRankFault}
use Rattle.ds_rank.proofs.Freed.{free_ends, free_from, free_into}
use Rattle.ds_rank.proofs.RelatedOrders.{cycle_by, ranks_by}
use Rattle.ds_rank.proofs.find.rank.Goals as goal

pub least_ranks-requires-clause-ends : goal.least_ranks-requires-clause-ends
least_ranks-requires-clause-ends c =
    let edges : c.as_slice-2.result.now ≡ free_part c.args.graph.now.arcs = c.as_slice-2.ensures.value ∙ c.in-Ok.ensures
    ∙ ap free_part (take_all (length c.arcs-arcs.result.now) c.arcs-arcs.result.now (omega arith) ∙ c.arcs-arcs.ensures.arcs) in
    let floors : c.as_slice.result.now ≡ replicate {A = ℕ} (length c.args.graph.now.events) 0 = c.as_slice.ensures.value ∙ c.in-Ok-zeros.ensures
    ∙ ap (λ (events : List Event). replicate {A = ℕ} (length events) 0) c.events.ensures.events in
    let size : length c.as_slice.result.now ≡ length c.args.graph.now.events = rw floors (length-replicate (length c.args.graph.now.events) 0) in
    rw (edges, size) (free_ends c.args.graph.now.arcs (length c.args.graph.now.events) c.arcs-arcs.ensures.kept.ends)

pub least_ranks-requires-clause-few : goal.least_ranks-requires-clause-few
least_ranks-requires-clause-few c =
    let floors : c.as_slice.result.now ≡ replicate {A = ℕ} (length c.args.graph.now.events) 0 = c.as_slice.ensures.value ∙ c.in-Ok-zeros.ensures
    ∙ ap (λ (events : List Event). replicate {A = ℕ} (length events) 0) c.events.ensures.events in
    let size : length c.as_slice.result.now ≡ length c.args.graph.now.events = rw floors (length-replicate (length c.args.graph.now.events) 0) in
    rw size c.arcs-arcs.ensures.kept.few_events

pub least_ranks-requires-clause-room : goal.least_ranks-requires-clause-room
least_ranks-requires-clause-room c =
    let floors : c.as_slice.result.now ≡ replicate {A = ℕ} (length c.args.graph.now.events) 0 = c.as_slice.ensures.value ∙ c.in-Ok-zeros.ensures
    ∙ ap (λ (events : List Event). replicate {A = ℕ} (length events) 0) c.events.ensures.events in
    let size : length c.as_slice.result.now ≡ length c.args.graph.now.events = rw floors (length-replicate (length c.args.graph.now.events) 0) in
    let few : length c.args.graph.now.events < 2 ^ 32 = c.arcs-arcs.ensures.kept.few_events in
    rw (size, floors) (λ v lt. let zero = get_or-replicate {A = ℕ} (length c.args.graph.now.events) v 0 0 lt in omega (arith, zero))

pub returns-in-Ok-least_ranks-clause-ok : goal.returns-in-Ok-least_ranks-clause-ok
returns-in-Ok-least_ranks-clause-ok c =
    let edges : c.as_slice-2.result.now ≡ free_part c.args.graph.now.arcs = c.as_slice-2.ensures.value ∙ c.in-Ok.ensures
    ∙ ap free_part (take_all (length c.arcs-arcs.result.now) c.arcs-arcs.result.now (omega arith) ∙ c.arcs-arcs.ensures.arcs) in
    let floors : c.as_slice.result.now ≡ replicate {A = ℕ} (length c.args.graph.now.events) 0 = c.as_slice.ensures.value ∙ c.in-Ok-zeros.ensures
    ∙ ap (λ (events : List Event). replicate {A = ℕ} (length events) 0) c.events.ensures.events in
    let size : length c.as_slice.result.now ≡ length c.args.graph.now.events = rw floors (length-replicate (length c.args.graph.now.events) 0) in
    subst (λ (r : List ℕ). IsRanks (HasFreeArc c.args.graph.now) (length c.args.graph.now.events) (λ _. 0) r) (sym c.of.ensures)
    (ranks_by (HasEdge c.as_slice-2.result.now) (HasFreeArc c.args.graph.now)
    (λ u v h. free_from c.args.graph.now.arcs u v (subst (λ (es : List Edge). HasEdge es u v) edges h))
    (λ u v h. subst (λ (es : List Edge). HasEdge es u v) (sym edges) (free_into c.args.graph.now.arcs u v h))
    (length c.as_slice.result.now) (length c.args.graph.now.events) (slice_index c.as_slice.result.now) (λ _. 0) c.in-Ok-least_ranks.numbers.items size
    (λ v lt. rw floors (get_or-replicate {A = ℕ} (length c.args.graph.now.events) v 0 0 lt)) c.in-Ok-least_ranks.ensures.ok)

pub returns-in-Err-Cycle-clause-fault : goal.returns-in-Err-Cycle-clause-fault
returns-in-Err-Cycle-clause-fault c =
    let edges : c.as_slice-2.result.now ≡ free_part c.args.graph.now.arcs = c.as_slice-2.ensures.value ∙ c.in-Ok.ensures
    ∙ ap free_part (take_all (length c.arcs-arcs.result.now) c.arcs-arcs.result.now (omega arith) ∙ c.arcs-arcs.ensures.arcs) in
    let walk = c.in-Err-Cycle.ensures.cycle c.in-Err-Cycle.nodes (ap Err c.in-Err-Cycle.field-0-is) in
    let arcs = cycle_by (HasEdge c.as_slice-2.result.now) (HasFreeArc c.args.graph.now)
    (λ u v h. free_from c.args.graph.now.arcs u v (subst (λ (es : List Edge). HasEdge es u v) edges h))
    c.in-Err-Cycle.nodes.items walk in
    elim c.cycle_of.ensures [
      | inl none ↦ rw none tt
      | inr is ↦
          let same : c.in-Err-Cycle.nodes.items ≡ c.as_slice-in-Err-Cycle.result.now = sym c.as_slice-in-Err-Cycle.ensures.value in
          subst (λ (fault : RankFault). IsRankFault c.args.graph.now fault) (sym is) (subst (λ (xs : List ℕ). IsCycle (HasFreeArc c.args.graph.now) xs) same arcs)
    ]
