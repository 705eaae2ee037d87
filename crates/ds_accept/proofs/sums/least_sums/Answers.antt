use Rattle.std.proofs.Common.{ℕ, List, Option, Some, None, ◌≡◌, ◌<◌, ◌∙◌, ap, arith, length, length-set, subst, sym}
use Rattle.std.proofs.Math.ListN.{set}
use Rattle.std.proofs.lemmas.List.{length-replicate}
use Rattle.ds_marked.specs.Graph.{AreEnds}
use Rattle.ds_marked.specs.declared.marked.Arc.{Arc}
use Rattle.ds_marked.specs.declared.marked.Event.{Event}
use Rattle.ds_accept.specs.Masks.{AreAllIn}
use Rattle.ds_accept.specs.Sums.{AreLeastSums}
use Rattle.ds_accept.specs.Lowered.{AreWalkSums, IsLowAt, sum_at}
use Rattle.ds_accept.proofs.ArcsBySource.{ends_in}
use Rattle.ds_accept.proofs.Lower.{all_least, first_start, first_sums}
use Rattle.ds_accept.proofs.sums.least_sums.Goals as goal

pub lower_nearest-requires-clause-ends : goal.lower_nearest-requires-clause-ends
lower_nearest-requires-clause-ends c =
    let events : length c.events-events.result.now ≡ length c.args.graph.now.events = ap (λ (events : List Event). length events) c.events-events.ensures.events in
    let size : length (set c.in_ok-sums.sums.items c.index.result (Some 0)) ≡ length c.args.graph.now.events =
    length-set c.in_ok-sums.sums.items c.index.result (Some 0) ∙ (ap (λ (xs : List (Option ℕ)). length xs) c.in_ok-sums.ensures ∙ (length-replicate (length c.events-events.result.now) None ∙ events)) in
    subst (λ (n : ℕ). AreEnds n c.args.graph.now.arcs) (sym size) c.events-events.ensures.kept.ends

pub lower_all-requires-clause-ends : goal.lower_all-requires-clause-ends
lower_all-requires-clause-ends c = let (there, _) = c.in_ok-arcs.ensures in
    let n : ℕ = length c.args.graph.now.events in
    let ends : AreEnds n c.in_ok-arcs.arcs.items = ends_in n c.in_ok-arcs.arcs.items c.args.graph.now.arcs there c.events-events.ensures.kept.ends in
    let events : length c.events-events.result.now ≡ n = ap (λ (events : List Event). length events) c.events-events.ensures.events in
    let size : length c.lower_nearest.new.sums.items ≡ n = c.in_ok-lower_nearest.ensures.size
    ∙ (length-set c.in_ok-sums.sums.items c.index.result (Some 0) ∙ (ap (λ (xs : List (Option ℕ)). length xs) c.in_ok-sums.ensures ∙ (length-replicate (length c.events-events.result.now) None ∙ events))) in
    subst (λ (arcs : List Arc). AreEnds (length c.lower_nearest.new.sums.items) arcs) (sym c.as_slice.ensures.value)
    (subst (λ (n : ℕ). AreEnds n c.in_ok-arcs.arcs.items) (sym size) ends)

pub returns : goal.returns
returns c = let (there, near_all) = c.in_ok-arcs.ensures in
    let n : ℕ = length c.events-events.result.now in
    let events : n ≡ length c.args.graph.now.events = ap (λ (events : List Event). length events) c.events-events.ensures.events in
    let sums : List (Option ℕ) = c.lower_all.new.sums.items in
    let arcs : List Arc = c.in_ok-arcs.arcs.items in
    let near = c.in_ok-lower_nearest.ensures in
    let size : length sums ≡ length c.args.graph.now.events = c.lower_all.ensures.size ∙ (near.size
    ∙ (length-set c.in_ok-sums.sums.items c.index.result (Some 0) ∙ (ap (λ (xs : List (Option ℕ)). length xs) c.in_ok-sums.ensures ∙ (length-replicate n None ∙ events)))) in
    let inside : c.args.from < n = omega (arith, c.requires.from) in
    let all : AreAllIn c.args.graph.now.arcs c.as_slice.result.now = subst (AreAllIn c.args.graph.now.arcs) (sym c.as_slice.ensures.value) near_all in
    let walks : AreWalkSums c.as_slice.result.now c.args.from sums = c.lower_all.ensures.walks c.args.from (near.walks c.as_slice.result.now c.args.from all
    (first_sums c.as_slice.result.now n c.args.from c.index.result c.in_ok-sums.sums.items c.in_ok-sums.ensures c.index.ensures inside)) in
    let start : sum_at sums c.args.from ≡ Some 0 = c.lower_all.ensures.start c.args.from (near.start c.args.from
    (first_start n c.args.from c.index.result c.in_ok-sums.sums.items c.in_ok-sums.ensures c.index.ensures inside)) in
    record {
      ok = subst (λ (sums : List (Option ℕ)). AreLeastSums c.args.graph.now c.args.from sums) (sym c.of.ensures)
          (all_least arcs sums (subst (λ (arcs : List Arc). Rattle.std.specs.Prelude.All (IsLowAt sums) arcs) c.as_slice.ensures.value c.lower_all.ensures.low) c.args.graph.now c.args.from
          there near_all (subst (λ (arcs : List Arc). AreWalkSums arcs c.args.from sums) c.as_slice.ensures.value walks) start size);
    }
