use Rattle.std.proofs.Common.{◌≡◌, ◌<◌, ◌+◌, ◌-◌, ◌∙◌, ℕ, List, ap, arith, sym, subst}
use Rattle.std.proofs.Common.{length}
use Rattle.ds_rule.specs.Run.{Run, node_of}
use Rattle.ds_marked.specs.declared.marked.Arc.{Arc}
use Rattle.ds_fabric.specs.Chained.{absent_arc, arc_numbered, IsLastArc}
use Rattle.ds_fabric.specs.Into.{IsArcIn, IsInto, IsLinedUp}
use Rattle.ds_fabric.specs.declared.arc_in.ArcIn.{ArcIn}
use Rattle.ds_fabric.proofs.ArcChains.{same-arc, read-off}
use Rattle.ds_fabric.proofs.IncomingArcs.{lined_none, lined_more}
use Rattle.ds_fabric.proofs.incoming.line_up.Goals as goal

pub back-init : goal.back-init
back-init g c = let run : Run = c.args.run.now in let q = c.requires.chains in
    let h : ℕ = c.index-at.result.now in
    let is = read-off c.args.chains.now.heads.items c.args.event h
    (omega (arith, q.heads_long, c.requires.near)) c.index-at.ensures in
    let last : IsLastArc run c.args.event (length run.arcs) h =
    subst (λ (x : ℕ). IsLastArc run c.args.event (length run.arcs) x) is
    (q.head c.args.event c.requires.near) in record {
      below = last.below;
      hit = last.hit;
      lined = lined_none run c.args.event h c.args.arcs.now.items c.args.numbers.now.items c.requires.long
          last;
    }

pub index-at-requires : goal.index-at-requires
index-at-requires g c = omega (arith, c.requires.chains.heads_long, c.requires.near)

pub bounds-all-number : goal.bounds-all-number
bounds-all-number g c =
    omega (
      arith,
      c.back.invariant.below,
      c.back-test.true,
      ap (λ (xs : List Arc). length xs) c.arcs-all.ensures,
    )

pub overflow_cast-number : goal.overflow_cast-number
overflow_cast-number g c =
    omega (arith, c.back.invariant.below, c.back-test.true, c.requires.sound.few_arcs)

pub index-at-requires-in-back : goal.index-at-requires-in-back
index-at-requires-in-back g c =
    omega (arith, c.requires.chains.links_long, c.back.invariant.below, c.back-test.true)

pub back-smaller : goal.back-smaller
back-smaller g c = let run : Run = c.args.run.now in let q = c.requires.chains in
    let m : ℕ = c.back.at - 1 in
    let below : m < length run.arcs = omega (arith, c.back.invariant.below, c.back-test.true) in
    let got = read-off c.args.chains.now.links.items m c.index-at-in-back.result.now
    (omega (arith, q.links_long, below)) c.index-at-in-back.ensures in
    omega (arith, got, (q.link m below).below, c.back-test.true)

pub of-requires : goal.of-requires
of-requires g c = let run : Run = c.args.run.now in
    let m : ℕ = c.back.at - 1 in
    let below : m < length run.arcs = omega (arith, c.back.invariant.below, c.back-test.true) in
    let same : c.index-all-number.result ≡ arc_numbered run m = c.index-all-number.is
    ∙ same-arc run c.arcs-all.result.now m _ c.arcs-all.ensures below in
    omega (
      arith,
      ap (λ (x : Arc). node_of run x.source) same,
      (c.requires.sound.named m absent_arc below).0,
      c.requires.sound.few,
    )

pub back-preserved : goal.back-preserved
back-preserved g c = let run : Run = c.args.run.now in let q = c.requires.chains in
    let m : ℕ = c.back.at - 1 in let inv = c.back.invariant in
    let new : ℕ = c.index-at-in-back.result.now in let x : ArcIn = c.of.result in
    let below : m < length run.arcs = omega (arith, inv.below, c.back-test.true) in
    let into : (arc_numbered run m).target ≡ c.args.event =
    inv.hit (omega (arith, c.back-test.true)) in
    let got = read-off c.args.chains.now.links.items m new
    (omega (arith, q.links_long, below)) c.index-at-in-back.ensures in
    let last : IsLastArc run c.args.event m new =
    subst (λ (y : ℕ). IsLastArc run y m new) into
    (subst (λ (y : ℕ). IsLastArc run (arc_numbered run m).target m y) got (q.link m below)) in
    let same : c.index-all-number.result ≡ arc_numbered run m = c.index-all-number.is
    ∙ same-arc run c.arcs-all.result.now m _ c.arcs-all.ensures below in
    let entry : IsInto run c.args.event m x = record {
      near = below;
      enters = into;
      says = subst (λ (a : Arc). IsArcIn run a x) same c.of.ensures;
    } in
    let step : m + 1 ≡ c.back.at = omega (arith, c.back-test.true) in
    let old : IsLinedUp run c.args.event (m + 1) c.args.arcs.now.items c.args.numbers.now.items
    c.back.arcs.items c.back.numbers.items =
    subst (λ (y : ℕ). IsLinedUp run c.args.event y c.args.arcs.now.items
    c.args.numbers.now.items c.back.arcs.items c.back.numbers.items) (sym step) inv.lined in record {
      below = omega (arith, last.below, below);
      hit = last.hit;
      lined = lined_more run c.args.event m new c.args.arcs.now.items c.back.arcs.items
          c.push.new.self.items c.args.numbers.now.items c.back.numbers.items
          c.push-in-back.new.self.items x entry last old c.in_ok-push.ensures.items
          c.in_ok-push-2.ensures.items;
    }
