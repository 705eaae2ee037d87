-- What loads change in a view, and what a search for missing tokens tells.
use Rattle.std.proofs.Common.{◌≡◌, ℕ, ◌+◌, ◌<◌, ◌≤◌, ◌≢◌, Bool, true, false, List, length}
use Rattle.std.proofs.Common.{get_or, sym, refl, ap, ◌∙◌, subst, arith, le_refl, le_trans}
use Rattle.std.proofs.Common.{length-set}
use Rattle.std.proofs.Common.{get_or-set_other, get_or-set_same}
use mathlib.Core.Logic.{dite}
use native.Mathlib.Decide.{ℕ_discrete}
use Rattle.ds_rule.specs.Run.{Run, node_of, turns, count}
use Rattle.ds_rule.specs.Rule.{holds, seen}
use Rattle.ds_rule.specs.Plays.{Sat, after_look}
use Rattle.ds_marked.specs.declared.marked.Arc.{Arc}
use Rattle.ds_rule.specs.declared.view.View.{View}
use Rattle.ds_rule.proofs.EventLaws.{turns_up}
use Rattle.ds_fabric.specs.Chained.{arc_numbered}
use Rattle.ds_fabric.specs.Looks.{LooksOn, IsSeenLacking}

pub seen-here : (v : View) (l r x : ℕ) → l < length v.seen → x ≡ l → seen (after_look v l r) x ≡ r
seen-here v l r x near e = ap (seen (after_look v l r)) e ∙ get_or-set_same v.seen l r 0 near

seen-else : (v : View) (l r x : ℕ) → x ≢ l → seen (after_look v l r) x ≡ seen v x
seen-else v l r x n = get_or-set_other v.seen l x r 0 n

pub seen_rises : (v : View) (l r x : ℕ) → l < length v.seen → seen v l ≤ r
    → seen v x ≤ seen (after_look v l r) x
seen_rises v l r x near up = dite (ℕ_discrete x l)
    (λ e. omega (arith, seen-here v l r x near e, ap (seen v) e))
    (λ n. omega (arith, seen-else v l r x n))

-- what is held before is held after, and the other way
pub has_after : (u v : View) (l : ℕ) → LooksOn u v → holds v l ≡ holds u l
has_after u v l q = ap (λ (hs : List Bool). get_or hs l false) q.holds_same

-- before any load
pub looks_none : (v : View) → LooksOn v v
looks_none v = record {
  live = refl;
  run = refl;
  holds_same = refl;
  tickets_same = refl;
  drawn = refl;
  phase = refl;
  seen_long = refl;
  seen_up = λ l. le_refl _;
  looks_up = le_refl _;
  own = λ l h. refl;
}

pub looks_more : (u v : View) (l r : ℕ) → LooksOn u v → l < length v.seen → seen v l ≤ r
    → (holds v l ≡ true → r ≡ seen v l) → LooksOn u (after_look v l r)
looks_more u v l r q near up own = record {
  live = q.live;
  run = q.run;
  holds_same = q.holds_same;
  tickets_same = q.tickets_same;
  drawn = q.drawn;
  phase = q.phase;
  seen_long = length-set v.seen l r ∙ q.seen_long;
  seen_up = λ x. le_trans (q.seen_up x) (seen_rises v l r x near up);
  looks_up = omega (arith, q.looks_up);
  own = λ x h. dite (ℕ_discrete x l)
      (λ t. seen-here v l r x near t ∙ (own (subst (λ y. holds v y ≡ true) t (has_after u v x q
      ∙ h)) ∙ (ap (seen v) (sym t) ∙ q.own x h)))
      (λ n. seen-else v l r x n ∙ q.own x h);
}

-- the load of a source whose count is too small
pub gives_up : (run : Run) (event turn n : ℕ) (u : View) (m m' : Sat) (x r c : ℕ)
    → x ≡ node_of run (arc_numbered run n).source → c ≡ turns run (arc_numbered run n).source r
    → m' ≡ (after_look m.0 x r, m.1) → LooksOn u m.0 → length u.seen ≡ run.nodes → x < run.nodes
    → seen m.0 x ≤ r → (holds m.0 x ≡ true → r ≡ seen m.0 x)
    → n < length run.arcs → (arc_numbered run n).target ≡ event
    → c + (arc_numbered run n).tokens < turn
    → LooksOn u m'.0 × IsSeenLacking run u m'.0 event turn n c
gives_up run event turn n u m m' x r c from gave is q long near up own there into short =
    let a : Arc = arc_numbered run n in
    let inside : x < length m.0.seen = omega (arith, q.seen_long) in
    let P : Sat → Type 0 = λ y. LooksOn u y.0 × IsSeenLacking run u y.0 event turn n c in
    let counted : (v : View) → turns run a.source (seen v x) ≡ count run (seen v) a.source =
    λ v. ap (λ (l : ℕ). turns run a.source (seen v l)) from in
    subst P (sym is) (
      looks_more u m.0 x r q inside up own,
      record {
        inside = there;
        enters = into;
        looked = omega (arith, q.looks_up);
        last = from;
        gave = gave;
        short = short;
        at_least = omega (
          arith,
          gave,
          counted u,
          turns_up run a.source (seen u x) r (le_trans (q.seen_up x) up),
        );
        own = λ h. let has : holds u x ≡ true = ap (holds u) from ∙ h in
            gave ∙ (ap (turns run a.source) (own (has_after u m.0 x q ∙ has) ∙ q.own x has)
            ∙ counted u);
      },
    )
