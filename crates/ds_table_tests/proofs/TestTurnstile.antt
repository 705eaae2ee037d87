-- A turnstile of the passes of the tests, and its turns.
use Rattle.std.proofs.Common.{◌≡◌, ◌∙◌, ◌+◌, ◌-◌, ℕ, List, [], ◌∷◌, length, refl, sym, ap, subst, ◌<◌, get_or, true, arith}
use mathlib.Core.Option.{some}
use lib.ListN.{get_elem?}
use Rattle.ds_rule.specs.Run.{Run}
use Rattle.ds_rule.specs.Rule.{holds, seen}
use Rattle.ds_rule.proofs.GetElemLemmas.{at_or, same_at}
use Rattle.ds_base.specs.Scratch.{Kept, Remembers}
use Rattle.ds_fabric.specs.Base.{Base}
use Rattle.ds_fabric.specs.Showing.{Showing}
use Rattle.ds_runner.specs.TurnstileRule.{Alone, HasNone, fabric_of, run_of, keeps_permits, one_permit, has_out, base}
use Rattle.ds_runner.specs.Shown.{Stile, Turned, AreAlone, IsTurnstileOpened, IsTurnOf, IsTurnstileClosed}
use Rattle.ds_runner.specs.declared.turn_view.TurnView.{TurnView}
use Rattle.ds_table_tests.specs.Trio.{AreTrio, IsTrioStile, IsIdle}

-- passes of one fabric, of which the first tells which it is
pub of_one : (f : Base) (ps : List Showing) → AreTrio f ps
    → (fabric_of ps ≡ f.table_id) × (run_of ps ≡ f.run)
of_one f [] t = absurd (omega (arith, t.long))
of_one f (p ∷ ps) t = let a = t.each 0 p refl in (a.0, a.1)

pub all_alone : (f : Base) (ps : List Showing) → AreTrio f ps → AreAlone ps
all_alone f ps t l p at = let o = of_one f ps t in
    subst (λ (r : Run). Alone (fabric_of ps) r l p) (sym o.1)
    (subst (λ z. Alone z f.run l p) (sym o.0) (t.each l p at))

-- the turnstile that is built of them
pub opened : (f : Base) (ps : List Showing) (s : Stile) (t : Turned) → AreTrio f ps → base 0 ps ≡ 0
    → IsTurnstileOpened ps 2 s t → IsTrioStile f s
opened f ps s t a unfired o = let q = of_one f ps a in record {
  run_is = a.run_is;
  long = ap (λ (xs : List Showing). length xs) o.given_is ∙ a.long;
  fabric_of_given = ap fabric_of o.given_is ∙ q.0;
  run_of_given = ap run_of o.given_is ∙ q.1;
  unfired = ap (base 0) o.given_is ∙ unfired;
  two = o.all_permits_is;
}

-- the turn that was split, and the new one
pub kept : (f : Base) (ps : List Showing) (s : Stile) (t u : Turned) (scratch : Kept) → Remembers f.memory scratch
    → IsTurnstileOpened ps 2 s t → IsTurnOf s u → u.view ≡ keeps_permits t.view → IsIdle f s u scratch
kept f ps s t u scratch remembers o fits is = record {
  belongs = fits;
  none = λ l. ap (λ (v : TurnView). has_out v l) is ∙ o.none l;
  one = ap (λ (v : TurnView). v.permits) is ∙ ap (λ (n : ℕ). n - 1) o.permits;
  remembers = remembers;
}

pub new : (f : Base) (s : Stile) (t u : Turned) (scratch : Kept) → Remembers f.memory scratch → IsTurnOf s u
    → u.view ≡ one_permit t.view → HasNone u.view → IsIdle f s u scratch
new f s t u scratch remembers fits is none = record {
  belongs = fits;
  none = none;
  one = ap (λ (v : TurnView). v.permits) is;
  remembers = remembers;
}

-- the passes that come back
pub back : (f : Base) (s : Stile) (made : ℕ) (ps : List Showing) → IsTrioStile f s → IsTurnstileClosed s made ps
    → AreTrio f ps
back f s made ps g c = record {
  run_is = g.run_is;
  long = c.long ∙ g.long;
  each = λ l p at. subst (λ (r : Run). Alone f.table_id r l p) g.run_of_given
      (subst (λ z. Alone z (run_of s.given) l p) g.fabric_of_given (c.each l p at));
}

-- the pass in a place, and what is told of it
found : (f : Base) (ps : List Showing) (l : ℕ) (x : Showing) → AreTrio f ps → l < 3
    → x ≡ get_or ps l x → get_elem? ps l ≡ some x
found f ps l x t near is = at_or ps l x (omega (arith, near, t.long)) ∙ ap some (sym is)

pub held : (f : Base) (ps : List Showing) (l n : ℕ) (x : Showing) → AreTrio f ps → l < 3 → n ≡ l
    → x ≡ get_or ps l x → holds x.view n ≡ true
held f ps l n x t near same is =
    ap (holds x.view) same ∙ (t.each l x (found f ps l x t near is)).2

pub firings : (f : Base) (ps : List Showing) (l n m : ℕ) (x : Showing) → AreTrio f ps → l < 3
    → n ≡ l → x ≡ get_or ps l x → m ≡ seen x.view n
    → (p : Showing) → get_elem? ps l ≡ some p → m ≡ seen p.view l
firings f ps l n m x t near same is value p there = value ∙ (ap (seen x.view) same
    ∙ ap (λ (y : Showing). seen y.view l) (same_at ps l x p (found f ps l x t near is) there))

-- the firings of three passes, of which each is told by its place
pub sum_of_three : (ps : List Showing) (a b c : ℕ) → length ps ≡ 3
    → ((p : Showing) → get_elem? ps 0 ≡ some p → a ≡ seen p.view 0)
    → ((p : Showing) → get_elem? ps 1 ≡ some p → b ≡ seen p.view 1)
    → ((p : Showing) → get_elem? ps 2 ≡ some p → c ≡ seen p.view 2)
    → a + b + c ≡ base 0 ps
sum_of_three [] a b c long p q r = absurd (omega (arith, long))
sum_of_three (x ∷ []) a b c long p q r = absurd (omega (arith, long))
sum_of_three (x ∷ y ∷ []) a b c long p q r = absurd (omega (arith, long))
sum_of_three (x ∷ y ∷ z ∷ []) a b c long p q r = omega (arith, p x refl, q y refl, r z refl)
sum_of_three (x ∷ y ∷ z ∷ w ∷ ws) a b c long p q r = absurd (omega (arith, long))
