use Rattle.std.proofs.Common.{◌≡◌, ◌<◌, ◌+◌, ◌-◌, ℕ, List, length, get_or, set, subst, sym, ap, ◌∙◌, arith}
use Rattle.std.specs.List.{HoldsAt}
use Rattle.std.proofs.lemmas.List.{get_or_default}
use Rattle.ds_marked.specs.Into.{AreChains}
use Rattle.ds_marked.specs.declared.marked.Arc.{Arc}
use Rattle.ds_marked.proofs.ArcsIntoEvent.{chained_more}
use Rattle.ds_marked.proofs.arc_lists.ArcLists.of.Goals as goal

pub loop-i-preserved : goal.loop-i-preserved
loop-i-preserved c =
    let events : ℕ = c.args.events in
    let arcs : List Arc = c.args.arcs.now in
    let first : List ℕ = c.loop-i.first.items in
    let next : List ℕ = c.loop-i.next.items in
    let i : ℕ = c.loop-i.i - 1 in
    let t : ℕ = c.index-target.result in
    let up : i + 1 ≡ c.loop-i.i = omega arith in
    let chains : AreChains events arcs (i + 1) first next = subst (λ (n : ℕ). AreChains events arcs n first next) (sym up) c.loop-i.invariant in
    let inside : i < length arcs = omega arith in
    let arc : Arc = c.index-arcs-i.result in
    let is : HoldsAt (λ arc. arc.target ≡ t) arcs i =
    λ d. sym (c.index-target.ensures ∙ ap (λ (arc : Arc). arc.target) (get_or_default arcs i arc d inside)) in
    let near : t < events = (let low : (get_or arcs i arc).target < events = (c.requires.ends i arc inside).1 in let at : (get_or arcs i arc).target ≡ t = is arc in omega arith) in
    let value : c.index.result.now ≡ get_or first t 0 = c.index.ensures ∙ get_or_default first t c.index.result.now 0 (omega (arith, chains.one_each)) in
    subst (λ (x : ℕ). AreChains events arcs i (set first t i) (set next i x)) (sym value) (chained_more events arcs i t first next inside is near chains)

pub returns : goal.returns
returns c =
    let done : c.loop-i.i ≡ 0 = omega arith in
    subst (λ (n : ℕ). AreChains c.args.events c.args.arcs.now n c.loop-i.first.items c.loop-i.next.items) done c.loop-i.invariant
