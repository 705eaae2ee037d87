use Rattle.std.proofs.Common.{◌≡◌, ℕ, List, ap, length, arith, get_or, ◌∙◌, ◌+◌, sym, subst}
use Rattle.std.proofs.lemmas.List.{get_or_default}
use Rattle.ds_marked.specs.Graph.{Graph}
use Rattle.ds_marked.specs.Into.{IsNextPlace, AreChains}
use Rattle.ds_marked.specs.declared.marked.Arc.{Arc}
use Rattle.ds_marked.proofs.ArcsIntoEvent.{next_into}
use Rattle.ds_marked.proofs.marked.Marked.into_next.Goals as goal

pub returns : goal.returns
returns c v enters =
    let arcs : List Arc = c.args.self.now.arcs in
    let first : List ℕ = c.self.inside.into.first.items in
    let next : List ℕ = c.self.inside.into.next.items in
    let k : ℕ = c.args.arc in
    let chains : AreChains (length c.args.self.now.events) arcs 0 first next =
    subst (λ (g : Graph). AreChains (length g.events) g.arcs 0 first next) c.self.view_is c.self.invariant.1 in
    let is : c.index-2.result.now ≡ get_or next k 0 =
    c.index-2.ensures ∙ (ap (λ (i : ℕ). get_or next i c.index-2.result.now) c.index.ensures ∙ get_or_default next k c.index-2.result.now 0 (omega (arith, chains.one_an_arc, enters.0))) in
    next_into arcs (length c.arcs.result.now) c.index-2.result.now v (k + 1) c.arc_at.result
    (ap (λ (xs : List Arc). length xs) c.arcs.ensures.arcs)
    (subst (IsNextPlace arcs v (k + 1)) (sym is) (chains.nexts v k (omega arith) enters)) c.arc_at.ensures
