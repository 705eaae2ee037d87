use Rattle.ds_astg.proofs.GraphOfText.{ends_in, once_in, few_in, marked_is}
use Rattle.ds_astg.proofs.graph.marked.Goals as goal

pub new-requires-clause-ends : goal.new-requires-clause-ends
new-requires-clause-ends c = ends_in c.args.signals.now c.args.places.now c.in_ok-events.events c.in_ok-arcs.arcs.items c.requires.each
    c.in_ok-events.ensures.value c.in_ok-arcs.ensures c.requires.sound c.requires.whole

pub new-requires-clause-once : goal.new-requires-clause-once
new-requires-clause-once c = once_in c.args.signals.now c.args.places.now c.in_ok-events.events c.in_ok-arcs.arcs.items c.requires.each
    c.in_ok-events.ensures.value c.in_ok-arcs.ensures c.in_ok-events.ensures.distinct

pub new-requires-clause-few : goal.new-requires-clause-few
new-requires-clause-few c = few_in c.args.signals.now c.args.places.now c.in_ok-events.events c.in_ok-arcs.arcs.items c.requires.each
    c.in_ok-events.ensures.value c.in_ok-arcs.ensures c.requires.sound c.in_ok-events.ensures.few

pub returns : goal.returns
returns c = marked_is c.args.signals.now c.args.places.now c.in_ok-events.events c.in_ok-arcs.arcs.items c.requires.each
    c.in_ok-events.ensures.value c.in_ok-arcs.ensures c.new.result c.new.ensures.ok_events c.new.ensures.ok_arcs c.new.ensures.ok_kept
