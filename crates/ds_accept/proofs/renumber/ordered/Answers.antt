use Rattle.std.proofs.Common.{◌∙◌, ◌≡◌, ap, List, map, slice_index, subst, ℕ}
use Rattle.ds_marked.specs.declared.marked.Arc.{Arc}
use Rattle.ds_marked.specs.declared.marked.Event.{Event}
use Rattle.ds_accept.specs.Steps.{AreEventsNumbered, moved}
use Rattle.ds_accept.specs.declared.numbered.Numbered.{Numbered}
use Rattle.ds_accept.proofs.EventNumbering.{all_in_room, made, made_ends, made_few, made_once}
use Rattle.ds_accept.proofs.renumber.ordered.Goals as goal

-- events by other names
all_of : (known others graph own : List Event) (all : Numbered) → known ≡ others → graph ≡ own → AreEventsNumbered known graph all → AreEventsNumbered others own all
all_of known others graph own all e f are =
    subst (λ (ks : List Event). AreEventsNumbered ks own all) e (subst (λ (es : List Event). AreEventsNumbered known es all) f are)

pub numbers_of-requires-clause-few : goal.numbers_of-requires-clause-few
numbers_of-requires-clause-few c = rw (c.events-known.ensures.events, c.events-own.ensures.events)
    (all_in_room c.args.graph.now c.args.required.now c.events-own.ensures.kept c.events-known.ensures.kept c.requires)

pub new-requires-clause-ends : goal.new-requires-clause-ends
new-requires-clause-ends c =
    let f : AreEventsNumbered c.args.required.now.events c.args.graph.now.events c.in_ok-all.all = all_of _ _ _ _ _ c.events-known.ensures.events c.events-own.ensures.events c.in_ok-all.ensures in
    let arcs : c.in_ok-arcs.arcs.items ≡ map (moved (slice_index c.in_ok-all.all.numbers.items)) c.args.graph.now.arcs
    = c.in_ok-arcs.ensures ∙ (ap (λ (ns : List ℕ). map (moved (slice_index ns)) c.arcs.result.now) c.as_slice.ensures.value
    ∙ ap (λ (xs : List Arc). map (moved (slice_index c.in_ok-all.all.numbers.items)) xs) c.arcs.ensures.arcs) in
    made_ends c.args.graph.now c.args.required.now c.events-own.ensures.kept c.events-known.ensures.kept c.requires c.in_ok-all.all.events c.in_ok-all.all.numbers.items f.same f.places c.in_ok-arcs.arcs.items arcs

pub new-requires-clause-once : goal.new-requires-clause-once
new-requires-clause-once c =
    let f : AreEventsNumbered c.args.required.now.events c.args.graph.now.events c.in_ok-all.all = all_of _ _ _ _ _ c.events-known.ensures.events c.events-own.ensures.events c.in_ok-all.ensures in
    let arcs : c.in_ok-arcs.arcs.items ≡ map (moved (slice_index c.in_ok-all.all.numbers.items)) c.args.graph.now.arcs
    = c.in_ok-arcs.ensures ∙ (ap (λ (ns : List ℕ). map (moved (slice_index ns)) c.arcs.result.now) c.as_slice.ensures.value
    ∙ ap (λ (xs : List Arc). map (moved (slice_index c.in_ok-all.all.numbers.items)) xs) c.arcs.ensures.arcs) in
    made_once c.args.graph.now c.args.required.now c.events-own.ensures.kept c.events-known.ensures.kept c.requires c.in_ok-all.all.events c.in_ok-all.all.numbers.items f.same f.places c.in_ok-arcs.arcs.items arcs

pub new-requires-clause-few : goal.new-requires-clause-few
new-requires-clause-few c =
    let f : AreEventsNumbered c.args.required.now.events c.args.graph.now.events c.in_ok-all.all = all_of _ _ _ _ _ c.events-known.ensures.events c.events-own.ensures.events c.in_ok-all.ensures in
    let arcs : c.in_ok-arcs.arcs.items ≡ map (moved (slice_index c.in_ok-all.all.numbers.items)) c.args.graph.now.arcs
    = c.in_ok-arcs.ensures ∙ (ap (λ (ns : List ℕ). map (moved (slice_index ns)) c.arcs.result.now) c.as_slice.ensures.value
    ∙ ap (λ (xs : List Arc). map (moved (slice_index c.in_ok-all.all.numbers.items)) xs) c.arcs.ensures.arcs) in
    made_few c.args.graph.now c.args.required.now c.events-own.ensures.kept c.events-known.ensures.kept c.requires c.in_ok-all.all.events c.in_ok-all.all.numbers.items f.same f.places c.in_ok-arcs.arcs.items arcs

pub returns : goal.returns
returns c =
    let f : AreEventsNumbered c.args.required.now.events c.args.graph.now.events c.in_ok-all.all = all_of _ _ _ _ _ c.events-known.ensures.events c.events-own.ensures.events c.in_ok-all.ensures in
    let arcs : c.in_ok-arcs.arcs.items ≡ map (moved (slice_index c.in_ok-all.all.numbers.items)) c.args.graph.now.arcs
    = c.in_ok-arcs.ensures ∙ (ap (λ (ns : List ℕ). map (moved (slice_index ns)) c.arcs.result.now) c.as_slice.ensures.value
    ∙ ap (λ (xs : List Arc). map (moved (slice_index c.in_ok-all.all.numbers.items)) xs) c.arcs.ensures.arcs) in
    made c.args.graph.now c.args.required.now c.events-own.ensures.kept c.events-known.ensures.kept c.requires c.in_ok-all.all.events c.in_ok-all.all.numbers.items f.same f.places c.in_ok-arcs.arcs.items arcs c.new.result c.new.ensures.ok_events c.new.ensures.ok_arcs c.new.ensures.ok_kept
