use Rattle.std.proofs.Common.{◌∙◌, ◌++◌, ℕ, List, ap, arith, map}
use Rattle.std.proofs.lemmas.List.{take_all}
use Rattle.ds_marked.specs.Log.{text_of_event}
use Rattle.ds_control.specs.Part.{PushesPart}
use Rattle.ds_control.proofs.OrderPrefixes.{on_any}
use Rattle.ds_stage.specs.FaultText.{with_blanks}
use Rattle.ds_stage.proofs.TextParts.{word_more, word_refused, words_pushed}
use Rattle.ds_stage.proofs.graph_text.put_events.Goals as goal

pub loop-event-preserved : goal.loop-event-preserved
loop-event-preserved c =
    word_more (text_of_event c.args.graph.now) c.args.events.now c.loop-event.event-index c.event-item.result c.loop-event-test.true c.event-item.is
    c.args.text.now.items c.loop-event.text.items c.extend_from_slice.new.self.items c.put_event.new.text.items
    c.loop-event.invariant c.in_ok-extend_from_slice.ensures.items c.in_ok-put_event.ensures.ok

pub returns-in_err-extend_from_slice-clause-part : goal.returns-in_err-extend_from_slice-clause-part
returns-in_err-extend_from_slice-clause-part c =
    let old : List ℕ = c.args.text.now.items in
    let new : List ℕ = c.extend_from_slice.new.self.items in
    let f : ℕ → List ℕ = text_of_event c.args.graph.now in
    on_any c.from_residual.result (PushesPart old new (with_blanks (map f c.args.events.now)))
    (words_pushed f c.args.events.now c.loop-event.event-index old new (c.in_err-extend_from_slice.ensures.items ∙ c.loop-event.invariant))

pub returns-in_err-put_event-clause-part : goal.returns-in_err-put_event-clause-part
returns-in_err-put_event-clause-part c =
    let old : List ℕ = c.args.text.now.items in
    let new : List ℕ = c.put_event.new.text.items in
    let f : ℕ → List ℕ = text_of_event c.args.graph.now in
    on_any c.from_residual-in_err-put_event.result (PushesPart old new (with_blanks (map f c.args.events.now)))
    (word_refused f c.args.events.now c.loop-event.event-index c.event-item.result c.loop-event-test.true c.event-item.is
    old c.loop-event.text.items c.extend_from_slice.new.self.items new
    c.loop-event.invariant c.in_ok-extend_from_slice.ensures.items c.in_err-put_event.ensures.part)

pub returns-clause-ok : goal.returns-clause-ok
returns-clause-ok c =
    c.loop-event.invariant
    ∙ ap (λ (vs : List ℕ). c.args.text.now.items ++ with_blanks (map (text_of_event c.args.graph.now) vs))
    (take_all c.loop-event.event-index c.args.events.now (omega arith))
