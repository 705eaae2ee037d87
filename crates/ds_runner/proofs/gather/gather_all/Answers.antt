use Rattle.std.proofs.Common.{◌≡◌, ◌∙◌, ◌∷◌, [], ◌++◌, ◌+◌, List, ap, sym, refl, arith, subst, length, length-append, ℕ, ◌≤◌}
use mathlib.Core.Option.{some}
use lib.ListN.{get_elem?}
use Rattle.atomic_table.proofs.Lists.{at_last, at_longer}
use Rattle.ds_rule.specs.Rule.{holds, seen}
use Rattle.ds_rule.specs.declared.view.View.{View}
use Rattle.ds_base.specs.Scratch.{Remembers}
use Rattle.ds_fabric.specs.Base.{Base}
use Rattle.ds_fabric.specs.Showing.{Showing}
use Rattle.ds_runner.specs.TurnstileRule.{Alone, sum_below}
use Rattle.ds_runner.specs.Work.{AreSingle}
use Rattle.ds_runner.proofs.HiringLemmas.{taken_last}
use Rattle.ds_runner.proofs.TurnstileAtStart.{fires-at, fires_of, sum-fires}
use Rattle.ds_runner.proofs.NodeFirings.{taken_tickets, tickets-nodes}
use Rattle.ds_rule.specs.Run.{Run}
use Rattle.ds_runner.proofs.gather.gather_all.Goals as goal

-- the pass that was taken is the last one, alone with its node
last : (b : Base) (ps vs : List Showing) (p : Showing) → vs ≡ ps ++ p ∷ [] → AreSingle b vs → Alone b.table_id b.run (length ps) p
last b ps vs p items all = all (length ps) p
    (subst (λ (zs : List Showing). get_elem? zs (length ps) ≡ some p) (sym items) (at_last ps p (length ps) refl))

pub fired-fired-requires : goal.fired-fired-requires
fired-fired-requires g c =
    let one = last c.args.workload.now c.pop.new.self.items c.taking.passes.items c.in-Some.one c.in-Some.ensures.items c.taking.invariant.single in
    let node : c.new.result ≡ length c.pop.new.self.items = omega (arith, c.new.ensures, c.len.ensures) in
    ap (holds c.in-Some.one.view) node ∙ one.2

pub gather-requires-clause-other : goal.gather-requires-clause-other
gather-requires-clause-other g c =
    let one = last c.args.workload.now c.pop.new.self.items c.taking.passes.items c.in-Some.one c.in-Some.ensures.items c.taking.invariant.single in
    record {
      table = one.0 ∙ ap (λ (x : Base). x.table_id) (sym c.workload.view_is);
      run = one.1 ∙ ap (λ (x : Base). x.run) (sym c.workload.view_is);
    }

pub gather-requires-clause-room : goal.gather-requires-clause-room
gather-requires-clause-room g c =
    let one = last c.args.workload.now c.pop.new.self.items c.taking.passes.items c.in-Some.one c.in-Some.ensures.items c.taking.invariant.single in
    let size : length c.taking.passes.items ≡ length c.pop.new.self.items + 1 =
    ap (λ (xs : List Showing). length xs) c.in-Some.ensures.items ∙ length-append c.pop.new.self.items (c.in-Some.one ∷ []) in
    omega (arith, one.3, size, c.taking.invariant.room)

pub taking-preserved : goal.taking-preserved
taking-preserved g c = let b : Base = c.args.workload.now in
    let ps : List Showing = c.pop.new.self.items in
    let (same, sound) = c.workload.invariant in let runs = same ∙ ap (λ (x : Base). x.run) c.workload.view_is in
    let start : 0 + length ps ≡ length ps = omega arith in
    let i = c.taking.invariant in let e = c.gather.ensures in
    let one = last b ps c.taking.passes.items c.in-Some.one c.in-Some.ensures.items i.single in
    let size : length c.taking.passes.items ≡ length ps + 1 =
    ap (λ (xs : List Showing). length xs) c.in-Some.ensures.items ∙ length-append ps (c.in-Some.one ∷ []) in
    let before : (k : ℕ) (p : Showing) → get_elem? ps k ≡ some p → get_elem? c.taking.passes.items k ≡ some p =
    λ k p there. subst (λ (zs : List Showing). get_elem? zs k ≡ some p) (sym c.in-Some.ensures.items) (at_longer ps (c.in-Some.one ∷ []) k p there) in
    let here : get_elem? c.taking.passes.items (length ps) ≡ some c.in-Some.one =
    subst (λ (zs : List Showing). get_elem? zs (length ps) ≡ some c.in-Some.one) (sym c.in-Some.ensures.items) (at_last ps c.in-Some.one (length ps) refl) in record {
      fits = record {
        table = e.same.0 ∙ i.fits.table;
        run = ap (λ (x : View). x.run) e.view ∙ i.fits.run;
        remembers = subst (Remembers b.memory) (sym e.same.2) i.fits.remembers;
      };
      single = λ k p there. i.single k p (before k p there);
      room = omega (arith, e.same.1, e.many, one.3, size, i.room);
      few = omega (arith, size, i.few);
      held = taken_last b c.taking.pass.view c.gather.new.pass.view c.in-Some.one (length ps) i.fits.run e.view one
          (λ k near far. i.held k (omega (arith, near, size)) far);
      first = λ k p there. i.first k p (before k p there);
      fired = taken_tickets b c.taking.pass.view c.gather.new.pass.view c.in-Some.one (length ps) (fires_of c.args.passes.items 0)
          (subst (λ (r : Run). r.design_nodes ≤ r.nodes) runs sound.among) i.fits.run e.view one c.fired-fired.ensures.counted
          (fires-at c.args.passes.items 0 (length ps) c.in-Some.one (i.first (length ps) c.in-Some.one here) ∙ ap (seen c.in-Some.one.view) start)
          (λ k near far. i.fired k (omega (arith, near, size)) far);
    }

pub returns-clause-fired : goal.returns-clause-fired
returns-clause-fired g c = let (_, size) = c.requires.passes in let (none, _) = c.in_default.ensures.cases in let b : Base = c.args.workload.now in
    let ps : List Showing = c.args.passes.items in
    let (same, sound) = c.workload.invariant in let runs = same ∙ ap (λ (x : Base). x.run) c.workload.view_is in
    let i = c.taking.invariant in
    tickets-nodes b.run c.taking.pass.view (fires_of ps 0) (subst (λ (r : Run). r.design_nodes ≤ r.nodes) runs sound.among)
    i.fits.run (λ e near. i.fired e (omega (arith, none)) near)
    ∙ (ap (sum_below (fires_of ps 0)) (sym size) ∙ sum-fires ps 0)
