use Rattle.std.proofs.lemmas.Result.{on_ok_weaker}
use Rattle.ds_stage.proofs.LogTexts.{ends_are}
use Rattle.ds_stage.proofs.log_text.put_ends.Goals as goal

pub returns : goal.returns
returns c =
    on_ok_weaker c.put_event-2.result
    (ends_are c.args.graph.now c.arcs.result.now c.args.text.now.items c.put_event.new.text.items c.extend_from_slice.new.self.items c.put_event-2.new.text.items c.args.arc c.index.result c.in-Some.arc.now
    c.arcs.ensures.arcs c.index.ensures c.in-Some.ensures.lookup.3.0 c.in-Some.ensures.lookup.1 c.in_ok-put_event.ensures.ok c.in_ok-extend_from_slice.ensures.items)
    c.put_event-2.ensures.ok
