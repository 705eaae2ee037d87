use Rattle.std.proofs.Common.{◌∙◌, ◌<◌, ap, sym, arith}
use Rattle.ds_marked.specs.declared.marked.Arc.{Arc}
use Rattle.ds_astg.specs.Text.{arc_at, tokens_text}
use Rattle.ds_outside.proofs.Pens.{puts_nothing, puts_on, with_put}
use Rattle.ds_astg.proofs.GraphTextCases.{arc_is, no_entry, one_entry}
use Rattle.ds_astg.proofs.entry.put_entry.Goals as goal

pub returns-then-tokens-eq0 : goal.returns-then-tokens-eq0
returns-then-tokens-eq0 g c =
    let same = sym c.index-arcs-arc.is ∙ arc_is c.args.graph.now c.arcs-arcs.result.now c.args.arc c.index-arcs-arc.result c.arcs-arcs.ensures.arcs c.requires c.index-arcs-arc.is in
    with_put (no_entry c.args.graph.now c.args.arc (ap (λ (a : Arc). a.tokens) (sym same) ∙ c.if-tokens-eq0.true)) (puts_nothing (g.P.Pen.writing c.args.pen.now))

pub returns : goal.returns
returns g c =
    let same = sym c.index-arcs-arc.is ∙ arc_is c.args.graph.now c.arcs-arcs.result.now c.args.arc c.index-arcs-arc.result c.arcs-arcs.ensures.arcs c.requires c.index-arcs-arc.is in
    let tokens = ap (λ (a : Arc). a.tokens) same in
    let some : 0 < (arc_at c.args.graph.now c.args.arc).tokens = (let left = c.if-tokens-eq0.false in omega (arith, tokens)) in
    with_put (one_entry c.args.graph.now c.args.arc some)
    (puts_on (puts_on c.put.ensures c.put_name.ensures) (with_put (ap tokens_text tokens) c.put_tokens.ensures))
