use Rattle.std.proofs.Common.{List, length, subst, sym}
use Rattle.std.proofs.lemmas.Result.{IfOk-weaker}
use Rattle.ds_marked.specs.Graph.{AreEnds}
use Rattle.ds_marked.specs.declared.marked.Arc.{Arc}
use Rattle.ds_marked.specs.declared.marked.Event.{Event}
use Rattle.ds_accept.specs.Given.{IsFirstUnmet}
use Rattle.ds_accept.specs.Masks.{along_arcs}
use Rattle.ds_accept.proofs.ArcsBySource.{ends_in}
use Rattle.ds_accept.proofs.MaskWalks.{first_too}
use Rattle.ds_accept.proofs.unmet.first_unmet.Goals as goal

pub first_along-requires-clause-ends : goal.first_along-requires-clause-ends
first_along-requires-clause-ends c = let (there, _) = c.in_ok-arcs.ensures in
    let ends : AreEnds (length c.args.graph.now.events) c.in_ok-arcs.arcs.items = ends_in (length c.args.graph.now.events) c.in_ok-arcs.arcs.items c.args.graph.now.arcs there c.events.ensures.kept.ends in
    subst (λ (arcs : List Arc). AreEnds (length c.events.result.now) arcs) (sym c.as_slice.ensures.value)
    (subst (λ (events : List Event). AreEnds (length events) c.in_ok-arcs.arcs.items) (sym c.events.ensures.events) ends)

pub returns : goal.returns
returns c = let (there, near_all) = c.in_ok-arcs.ensures in record {
  ok = IfOk-weaker c.first_along.result (IsFirstUnmet (along_arcs c.as_slice.result.now) c.args.asked.now) (IsFirstUnmet c.args.graph.now c.args.asked.now)
      (λ first is. first_too c.args.graph.now (along_arcs c.in_ok-arcs.arcs.items) there near_all c.args.asked.now first
      (subst (λ (arcs : List Arc). IsFirstUnmet (along_arcs arcs) c.args.asked.now first) c.as_slice.ensures.value is)) c.first_along.ensures;
}
