use Rattle.std.proofs.Common.{◌≡◌, ◌∙◌, ◌<◌, ◌^◌, ℕ, List, length, sym, subst, arith}
use Rattle.std.proofs.Math.ListN.{replicate}
use Rattle.std.specs.List.{slice_index}
use Rattle.std.proofs.lemmas.List.{get_or-replicate, length-replicate}
use Rattle.std.proofs.lemmas.Result.{IfOk-weaker}
use Rattle.ds_rank.specs.declared.edge.Edge.{Edge}
use Rattle.ds_rank.specs.Order.{HasEdge, IsRanks}
use Rattle.ds_rank.proofs.RelatedOrders.{cycle_by}
use Rattle.ds_netlist.specs.Edges.{FeedsIn, edges_of}
use Rattle.ds_netlist.proofs.TableEdges.{fed_ends, fed_from, fed_into}
use Rattle.ds_feedback.specs.Links.{RiseAlong}
use Rattle.ds_feedback.proofs.edges.ranks_of.Goals as goal

pub least_ranks-requires-clause-ends : goal.least_ranks-requires-clause-ends
least_ranks-requires-clause-ends c =
    let edges : c.as_slice-2.result.now ≡ edges_of c.args.links.now = c.as_slice-2.ensures.value ∙ c.in_ok-edges.ensures.ok in
    let floors : c.as_slice.result.now ≡ replicate {A = ℕ} c.args.nets 0 = c.as_slice.ensures.value ∙ c.in_ok-floors.ensures in
    let size : length c.as_slice.result.now ≡ c.args.nets = rw floors (length-replicate c.args.nets 0) in
    rw (edges, size) (fed_ends c.args.links.now c.args.nets c.requires.within)

pub least_ranks-requires-clause-few : goal.least_ranks-requires-clause-few
least_ranks-requires-clause-few c =
    let floors : c.as_slice.result.now ≡ replicate {A = ℕ} c.args.nets 0 = c.as_slice.ensures.value ∙ c.in_ok-floors.ensures in
    let size : length c.as_slice.result.now ≡ c.args.nets = rw floors (length-replicate c.args.nets 0) in
    rw size c.requires.few

pub least_ranks-requires-clause-room : goal.least_ranks-requires-clause-room
least_ranks-requires-clause-room c =
    let floors : c.as_slice.result.now ≡ replicate {A = ℕ} c.args.nets 0 = c.as_slice.ensures.value ∙ c.in_ok-floors.ensures in
    let size : length c.as_slice.result.now ≡ c.args.nets = rw floors (length-replicate c.args.nets 0) in
    let few : c.args.nets < 2 ^ 32 = c.requires.few in
    rw (size, floors) (λ v lt. let zero = get_or-replicate {A = ℕ} c.args.nets v 0 0 lt in omega (arith, zero))

pub returns-clause-ok : goal.returns-clause-ok
returns-clause-ok c =
    let edges : c.as_slice-2.result.now ≡ edges_of c.args.links.now = c.as_slice-2.ensures.value ∙ c.in_ok-edges.ensures.ok in
    let floors : c.as_slice.result.now ≡ replicate {A = ℕ} c.args.nets 0 = c.as_slice.ensures.value ∙ c.in_ok-floors.ensures in
    let size : length c.as_slice.result.now ≡ c.args.nets = rw floors (length-replicate c.args.nets 0) in
    IfOk-weaker c.least_ranks.result
    (λ r. IsRanks (HasEdge c.as_slice-2.result.now) (length c.as_slice.result.now) (slice_index c.as_slice.result.now) r.items)
    (λ r. RiseAlong c.args.links.now c.args.nets r.items)
    (λ r h. record {
      size = h.size ∙ size;
      above = λ u v feeds. h.above u v (subst (λ (es : List Edge). HasEdge es u v) (sym edges) (fed_into c.args.links.now u v feeds));
    }) c.least_ranks.ensures.ok

pub returns-clause-cycle : goal.returns-clause-cycle
returns-clause-cycle c = λ nodes is.
    let edges : c.as_slice-2.result.now ≡ edges_of c.args.links.now = c.as_slice-2.ensures.value ∙ c.in_ok-edges.ensures.ok in
    cycle_by (HasEdge c.as_slice-2.result.now) (FeedsIn c.args.links.now)
    (λ u v h. fed_from c.args.links.now u v (subst (λ (es : List Edge). HasEdge es u v) edges h))
    nodes.items (c.least_ranks.ensures.cycle nodes is)
