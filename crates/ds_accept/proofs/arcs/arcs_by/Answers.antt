use Rattle.std.proofs.Common.{ℕ, ◌≡◌, ◌<◌, ◌∙◌, sym, arith, get_or, below_more, length, List}
use Rattle.std.specs.Prelude.{All, Contains}
use Rattle.std.proofs.lemmas.List.{get_or_default}
use Rattle.ds_marked.specs.declared.marked.Arc.{Arc}
use Rattle.ds_accept.proofs.ArcsBySource.{all_kept}
use Rattle.ds_accept.proofs.arcs.arcs_by.Goals as goal

pub loop-event-preserved : goal.loop-event-preserved
loop-event-preserved c =
    let with = c.in_ok-push_from.ensures in
    let old : List Arc = c.loop-event.arcs.items in
    let new : List Arc = c.push_from.new.arcs.items in
    record {
      alone = with.alone c.loop-event.invariant.alone;
      seen = below_more (λ k. All (λ arc. arc.source ≡ get_or c.args.order.now k 0 → Contains new arc) c.args.graph.now.arcs) c.loop-event.event-index
          (λ k lt j d inside is. all_kept old new (get_or c.args.graph.now.arcs j d) with.kept (c.loop-event.invariant.seen k lt j d inside is))
          (λ j d inside is. with.added j d inside (is ∙ sym (c.event-item.is ∙ get_or_default c.args.order.now c.loop-event.event-index c.event-item.result 0 c.loop-event-test.true)));
    }

pub returns : goal.returns
returns c = (
  c.loop-event.invariant.alone,
  λ j d inside.
      let source : ℕ = (get_or c.args.graph.now.arcs j d).source in
      let at : Contains c.args.order.now source = c.requires.order source (c.arcs-kept.ensures.kept.ends j d inside).0 in
      let low : at.0 < length c.args.order.now = at.1 in
      c.loop-event.invariant.seen at.0 (omega (arith, c.loop-event-test.false)) j d inside (sym at.2 ∙ get_or_default c.args.order.now at.0 source 0 at.1),
)
