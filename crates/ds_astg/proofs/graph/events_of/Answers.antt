use Rattle.std.proofs.Common.{◌∙◌, ◌++◌, ℕ, List, ap, sym, take, arith}
use Rattle.ds_marked.specs.declared.marked.Event.{Event}
use Rattle.ds_astg.specs.Read.{all_events, named_events}
use Rattle.ds_astg.proofs.GraphOfText.{events-next}
use Rattle.ds_astg.proofs.graph.events_of.Goals as goal

pub loop-i-preserved : goal.loop-i-preserved
loop-i-preserved c =
    let names = c.args.signals.now.names in
    let roles = c.args.signals.now.roles in
    let i = c.loop-i.i in
    c.in_ok-add_events.ensures ∙ (ap (λ (es : List Event). es ++ named_events c.role.result c.name.result.now) c.loop-i.invariant
    ∙ (ap (λ (w : List ℕ). all_events (take i names) (take i roles) ++ named_events c.role.result w) c.name.ensures
    ∙ sym (events-next names roles i c.role.result (omega (arith, c.len-i-end.ensures.value, c.loop-i-test.true)) c.role.ensures)))
