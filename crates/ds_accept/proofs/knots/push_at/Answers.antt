use Rattle.std.proofs.Common.{ℕ, List, ◌≡◌, ◌<◌, ◌∙◌, ap, arith, get_or, length, subst, sym}
use Rattle.std.specs.Prelude.{Contains}
use Rattle.std.proofs.lemmas.List.Elements.{All-push}
use Rattle.ds_marked.specs.declared.marked.Arc.{Arc}
use Rattle.ds_accept.specs.Masks.{AreAllIn}
use Rattle.ds_accept.proofs.knots.push_at.Goals as goal

pub returns-in_ok-push : goal.returns-in_ok-push
returns-in_ok-push c =
    let arcs : List Arc = c.args.graph.now.arcs in
    let arc : Arc = c.index-known-index.result in
    let i : ℕ = c.index-then-index-known.result in
    let size : length c.arcs-known.result.now ≡ length arcs = ap (λ (xs : List Arc). length xs) c.arcs-known.ensures.arcs in
    let inside : i < length arcs = omega (arith, size, c.if-index-known.true, c.index.ensures, c.index-then-index-known.ensures) in
    let is : get_or arcs i arc ≡ arc = sym (c.index-known-index.is ∙ ap (λ (xs : List Arc). get_or xs i arc) c.arcs-known.ensures.arcs) in
    subst (λ (xs : List Arc). AreAllIn xs arcs) (sym c.in_ok-push.ensures.items)
    (All-push (Contains arcs) c.args.arcs.now.items arc c.requires (i, inside, is))
