use Rattle.std.proofs.Common.{◌≡◌, ◌<◌, ◌∙◌, ℕ, List, ap, arith, get_or, length, refl, subst, sym}
use mathlib.Core.Logic.{dite}
use native.Mathlib.Decide.{ℕ_discrete}
use Rattle.std.proofs.lemmas.List.{get_or_default}
use Rattle.ds_marked.specs.declared.marked.Arc.{Arc}
use Rattle.ds_runner.proofs.firing_order.rise.Goals as goal

pub loop-i-preserved : goal.loop-i-preserved
loop-i-preserved g c k d low inside = dite (ℕ_discrete k c.loop-i.i)
    (λ e. let arcs : List Arc = c.args.run.now.arcs in let x : Arc = c.index-arcs-i.result in
    let this : x ≡ get_or arcs k d = c.index-arcs-i.is
    ∙ (ap (λ (xs : List Arc). get_or xs c.loop-i.i x) c.arcs-arcs.ensures
    ∙ (ap (λ (i : ℕ). get_or arcs i x) (sym e) ∙ get_or_default arcs k x d inside)) in
    subst (λ (a : Arc). a.tokens ≡ 0 → get_or c.args.places.now a.source 0 < get_or c.args.places.now a.target 0) this
    (c.if-not-rises.ensures refl))
    (λ apart. c.loop-i.invariant k d (omega arith) inside)

pub returns : goal.returns
returns g c so k d inside = c.loop-i.invariant k d
    (omega (
      arith,
      c.loop-i-test.false,
      c.loop-i.auto.i-end,
      ap (λ (xs : List Arc). length xs) c.arcs-arcs.ensures,
    )) inside
