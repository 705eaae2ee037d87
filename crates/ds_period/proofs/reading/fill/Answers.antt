use Rattle.std.proofs.Common.{◌≡◌, ◌∙◌, Bool, true, false, arith, ap, ap₂, get_or, refl, sym}
use Rattle.ds_marked.specs.declared.marked.Arc.{Arc}
use Rattle.ds_period.specs.Read.{is_from_to}
use Rattle.ds_period.proofs.ParallelArcs.{filled_all, filled_more, filled_none, filled_up, first_ends}
use Rattle.ds_period.proofs.reading.fill.Goals as goal

pub loop-k-init : goal.loop-k-init
loop-k-init c = record {
  behind = omega arith;
  filled = λ u v is. filled_none u v c.args.delay c.args.arcs.now c.args.delays.now c.requires.one_each c.args.first is;
}

pub returns-then-not-leads : goal.returns-then-not-leads
returns-then-not-leads c u v is = let a : Arc = c.index-arcs-k.result in
    let (source, target) = first_ends u v (get_or c.args.arcs.now c.args.first c.index-arcs-first.result).source (get_or c.args.arcs.now c.args.first c.index-arcs-first-2.result).target c.args.arcs.now c.args.first
    c.index-arcs-first.result c.index-arcs-first-2.result is c.requires.inside
    refl refl in
    let other : is_from_to u v (get_or c.args.arcs.now c.loop-k.k a) ≡ false =
    ap (is_from_to u v) (sym c.index-arcs-k.is) ∙ ap₂ (λ s t. is_from_to s t a) (sym source) (sym target)
    ∙ sym c.leads.ensures ∙ c.if-not-leads.true in
    filled_up u v c.args.delay c.args.arcs.now c.args.delays.now c.requires.one_each c.requires.sorted c.args.first c.loop-k.k a c.loop-k.delays is
    c.loop-k.invariant.behind c.loop-k-test.true other (c.loop-k.invariant.filled u v is)

pub loop-k-preserved : goal.loop-k-preserved
loop-k-preserved c = record {
  behind = omega (arith, c.loop-k.invariant.behind);
  filled = λ u v is.
      let a : Arc = c.index-arcs-k.result in
      let (source, target) = first_ends u v (get_or c.args.arcs.now c.args.first c.index-arcs-first.result).source (get_or c.args.arcs.now c.args.first c.index-arcs-first-2.result).target c.args.arcs.now c.args.first
      c.index-arcs-first.result c.index-arcs-first-2.result is c.requires.inside
      refl refl in
      let leads : is_from_to u v (get_or c.args.arcs.now c.loop-k.k a) ≡ true =
      ap (is_from_to u v) (sym c.index-arcs-k.is) ∙ ap₂ (λ s t. is_from_to s t a) (sym source) (sym target)
      ∙ sym c.leads.ensures ∙ c.if-not-leads.false in
      filled_more u v c.args.delay c.args.arcs.now c.args.delays.now c.requires.one_each c.loop-k.delays c.loop-k.k a
      c.loop-k-test.true leads (c.loop-k.invariant.filled u v is);
}

pub returns : goal.returns
returns c u v is =
    filled_all u v c.args.delay c.args.arcs.now c.args.delays.now c.requires.one_each c.loop-k.delays c.loop-k.k
    (omega arith) (c.loop-k.invariant.filled u v is)
