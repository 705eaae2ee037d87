use Rattle.std.proofs.Common.{◌<◌, ◌∙◌, ℕ, List, subst, sum, sym}
use Rattle.ds_period.specs.Search.{AreEvents, IsRaising}
use Rattle.ds_period.proofs.Risen.{low_stays, risen_stays}
use Rattle.ds_period.proofs.spreading.rise.Goals as goal

pub chase-requires : goal.chase-requires
chase-requires c = record { ready = c.requires.ready; firsts = c.requires.firsts; queue = c.requires.queue }

pub returns-then-chase-gt0 : goal.returns-then-chase-gt0
returns-then-chase-gt0 c = record {
  queue = c.chase.ensures.queue;
  search = c.chase.ensures.search;
  none = λ e. absurd (cc);
  some = λ e. c.chase.ensures.risen.some c.if-chase-gt0.true;
}

pub pass-requires-clause-few : goal.pass-requires-clause-few
pass-requires-clause-few c = (c.requires.ready.few_arcs, c.requires.ready.low_ratio)

pub pass-requires-clause-ends : goal.pass-requires-clause-ends
pass-requires-clause-ends c = subst (λ (n : ℕ). AreEvents n c.args.weighted.now.arcs.now) (sym c.chase.auto.h) c.requires.ready.ends

pub pass-requires-clause-search : goal.pass-requires-clause-search
pass-requires-clause-search c =
    subst (λ (n : ℕ). IsRaising c.args.weighted.now.arcs.now c.args.weighted.now.p c.args.weighted.now.q n c.chase.new.h c.chase.new.parent) (sym c.chase.auto.h) c.chase.ensures.search

pub pass-requires-clause-low : goal.pass-requires-clause-low
pass-requires-clause-low c =
    low_stays c.args.h.now c.chase.new.h c.chase.result c.chase.ensures.risen c.if-chase-gt0.false c.requires.ready.low

pub returns-clause-queue : goal.returns-clause-queue
returns-clause-queue c = c.chase.ensures.queue

pub returns-clause-search : goal.returns-clause-search
returns-clause-search c =
    subst (λ (n : ℕ). IsRaising c.args.weighted.now.arcs.now c.args.weighted.now.p c.args.weighted.now.q n c.pass.new.h c.pass.new.parent) c.chase.auto.h c.pass.ensures.search

pub returns-clause-none : goal.returns-clause-none
returns-clause-none c = λ e.
    let none = c.pass.ensures.none e in
    (none.0 ∙ risen_stays c.args.h.now c.chase.new.h c.chase.result c.chase.ensures.risen c.if-chase-gt0.false, none.1)

pub returns-clause-some : goal.returns-clause-some
returns-clause-some c = λ e.
    subst (λ (h : List ℕ). sum h < sum c.pass.new.h)
    (risen_stays c.args.h.now c.chase.new.h c.chase.result c.chase.ensures.risen c.if-chase-gt0.false) (c.pass.ensures.some e)
