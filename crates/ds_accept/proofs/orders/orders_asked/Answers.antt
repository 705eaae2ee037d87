use Rattle.std.proofs.Common.{◌≡◌, ◌∙◌, ap, List, length, map, slice_index, subst, sym, AllPairs}
use Rattle.std.proofs.lemmas.Result.{IfOk-weaker}
use Rattle.ds_marked.specs.Graph.{AreEnds, StandsBefore}
use Rattle.ds_marked.specs.declared.marked.Arc.{Arc}
use Rattle.ds_accept.specs.Steps.{AreAsked, AreLeft, moved}
use Rattle.ds_accept.proofs.Facts.{left_ends}
use Rattle.ds_accept.proofs.orders.orders_asked.Goals as goal

pub left_of-requires : goal.left_of-requires
left_of-requires c = record {
  orders = subst (AllPairs StandsBefore) (sym c.arcs-orders.ensures.arcs) c.arcs-orders.ensures.kept.sorted;
  arcs = subst (AllPairs StandsBefore) (sym c.arcs.ensures.arcs) c.arcs.ensures.kept.sorted;
}

pub moved_arcs-requires : goal.moved_arcs-requires
moved_arcs-requires c = subst (λ (left : List Arc). AreEnds (length c.args.places.now) left) (sym c.as_slice.ensures.value)
    (left_ends c.arcs-orders.result.now c.arcs.result.now c.in_ok-left.left.items c.in_ok-left.ensures c.args.places.now
    (rw (c.requires, c.arcs-orders.ensures.arcs) c.arcs-orders.ensures.kept.ends))

pub returns : goal.returns
returns c = IfOk-weaker c.moved_arcs.result (λ v. v.items ≡ map (moved (slice_index c.args.places.now)) c.as_slice.result.now)
    (λ v. AreAsked c.args.required.now.arcs c.args.graph.now.arcs (slice_index c.args.places.now) v.items)
    (λ v is. record {
      left = c.in_ok-left.left.items;
      are = subst (λ (arcs : List Arc). AreLeft c.args.required.now.arcs arcs c.in_ok-left.left.items) c.arcs.ensures.arcs
          (subst (λ (orders : List Arc). AreLeft orders c.arcs.result.now c.in_ok-left.left.items) c.arcs-orders.ensures.arcs c.in_ok-left.ensures);
      moved = is ∙ ap (λ (left : List Arc). map (moved (slice_index c.args.places.now)) left) c.as_slice.ensures.value;
    }) c.moved_arcs.ensures
