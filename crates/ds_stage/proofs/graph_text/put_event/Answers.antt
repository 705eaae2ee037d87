use Rattle.std.proofs.Common.{◌≡◌, ◌∙◌, ◌++◌, ℕ, List, ap, sym}
use Rattle.ds_marked.specs.Log.{sign, text_of_event}
use Rattle.ds_control.specs.Part.{PushesPart}
use Rattle.ds_control.proofs.OrderPrefixes.{on_any}
use Rattle.ds_stage.proofs.TextParts.{event_is, last_pushed, last_refused, none_pushed}
use Rattle.ds_stage.proofs.graph_text.put_event.Goals as goal

pub returns-in_err-extend_from_slice-clause-part : goal.returns-in_err-extend_from_slice-clause-part
returns-in_err-extend_from_slice-clause-part c =
    let old : List ℕ = c.args.text.now.items in
    let new : List ℕ = c.extend_from_slice.new.self.items in
    let all : List ℕ = text_of_event c.args.graph.now c.args.event in
    on_any c.from_residual.result (PushesPart old new all) (none_pushed old new all c.in_err-extend_from_slice.ensures.items)

pub returns : goal.returns
returns c =
    let old : List ℕ = c.args.text.now.items in
    let mid : List ℕ = c.extend_from_slice.new.self.items in
    let new : List ℕ = c.extend_from_slice-2.new.self.items in
    let all : List ℕ = text_of_event c.args.graph.now c.args.event in
    let name : List ℕ = c.as_slice.result.now in
    let last : List ℕ = c.sign.result.now in
    let pieces : text_of_event c.args.graph.now c.args.event ≡ c.as_slice.result.now ++ c.sign.result.now =
    event_is c.args.graph.now c.events.result.now c.args.event c.index.result c.in-Some.event.now c.events.ensures.events c.index.ensures
    c.in-Some.ensures.lookup.3.0 c.in-Some.ensures.lookup.1
    ∙ (ap (λ (t : List ℕ). t ++ sign c.in-Some.event.now.kind) (sym c.as_slice.ensures) ∙ ap (λ (t : List ℕ). name ++ t) (sym c.sign.ensures)) in
    record {
      ok = last_pushed c.extend_from_slice-2.result old mid new all name last pieces c.in_ok-extend_from_slice.ensures.items c.extend_from_slice-2.ensures.items;
      part = last_refused c.extend_from_slice-2.result old mid new all name last pieces c.in_ok-extend_from_slice.ensures.items c.extend_from_slice-2.ensures.items;
    }
