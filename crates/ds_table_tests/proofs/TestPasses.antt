-- Passes of the fabric of the tests: which nodes they hold once they are dealt.
use Rattle.std.proofs.Common.{◌≡◌, ◌<◌, ◌+◌, ℕ, zero, suc, List, Bool, true, false, length, get_or, replicate, [], ◌∷◌, sym, refl, ap, ◌∙◌, subst, arith, le_refl, get_or-set_same, get_or-set_other}
use Rattle.std.proofs.lemmas.List.{length-replicate}
use mathlib.Core.Option.{some, some-injective, some-ne-none}
use lib.ListN.{get_elem?}
use Rattle.ds_rule.specs.Run.{Run}
use Rattle.ds_rule.specs.Rule.{holds, seen}
use Rattle.ds_rule.specs.declared.view.View.{View}
use Rattle.ds_rule.proofs.GetElemLemmas.{has_below, replicate-default}
use Rattle.ds_fabric.specs.Base.{Base}
use Rattle.ds_fabric.specs.Showing.{Showing, IsFabricBegun, IsDealt, IsLeft}
use Rattle.ds_runner.specs.TurnstileRule.{Alone, base}
use Rattle.ds_table_tests.specs.Trio.{trio, CarriesFrom, CarriesOne, AreTrio}

all_three : (l : ℕ) → l < 3 → get_or (true ∷ true ∷ true ∷ []) l false ≡ true
all_three zero h = refl
all_three (suc zero) h = refl
all_three (suc (suc zero)) h = refl
all_three (suc (suc (suc l))) h = absurd (omega arith)

-- the first pass
pub begun : (run : Run) (f : Base) (p : Showing) → run ≡ trio → IsFabricBegun run f p → CarriesFrom 0 f p
begun run f p is b = record {
  run_is = b.run_is ∙ is;
  belongs = record { table = b.belongs.table; run = b.belongs.run };
  held = λ l near far. ap (λ (v : View). holds v l) b.view
      ∙ (ap (λ (r : Run). get_or (replicate r.nodes true) l false) is ∙ all_three l far);
  unfired = λ l. ap (λ (v : View). seen v l) b.view ∙ replicate-default {A = ℕ} run.nodes l 0;
}

-- a pass that is dealt
pub dealt : (node : ℕ) (f : Base) (old p : Showing) → CarriesFrom node f old → node < 3
    → IsDealt old node 1 p → CarriesOne node f p
dealt node f old p c near d =
    let hs : List Bool = old.view.holds in
    let bare : List Bool = replicate (length hs) false in
    let inside : node < length hs = has_below hs node (c.held node (le_refl node) near) in
    let below : node < length bare = omega (arith, length-replicate (length hs) false, inside) in
    record {
      alone = (
        d.table ∙ c.belongs.table,
        ap (λ (v : View). v.run) d.view ∙ c.belongs.run,
        ap (λ (v : View). holds v node) d.view ∙ get_or-set_same bare node true false below,
        d.many,
        λ j ne. ap (λ (v : View). holds v j) d.view ∙ (get_or-set_other bare node j true false ne
            ∙ replicate-default {A = Bool} (length hs) j false),
      );
      unfired = λ l. ap (λ (v : View). seen v l) d.view ∙ c.unfired l;
    }

-- what is left
pub left : (node : ℕ) (f : Base) (old p : Showing) → CarriesFrom node f old → IsLeft old node p
    → CarriesFrom (node + 1) f p
left node f old p c d = record {
  run_is = c.run_is;
  belongs = record {
    table = d.table ∙ c.belongs.table;
    run = ap (λ (v : View). v.run) d.view ∙ c.belongs.run;
  };
  held = λ l near far. ap (λ (v : View). holds v l) d.view
      ∙ (get_or-set_other old.view.holds node l false false (λ e. omega (arith, e, near))
      ∙ c.held l (omega (arith, near)) far);
  unfired = λ l. ap (λ (v : View). seen v l) d.view ∙ c.unfired l;
}

-- three passes, each with its node
three : (f : Base) (p q r : Showing) → f.run ≡ trio → CarriesOne 0 f p → CarriesOne 1 f q
    → CarriesOne 2 f r → AreTrio f (p ∷ q ∷ r ∷ [])
three f p q r is a b c = record { run_is = is; long = refl; each = each }
  where
    same : (l : ℕ) (x y : Showing) → CarriesOne l f x → some x ≡ some y → Alone f.table_id f.run l y
    same l x y one e = subst (Alone f.table_id f.run l) (some-injective x y e) one.alone

    each : (l : ℕ) (x : Showing) → get_elem? (p ∷ q ∷ r ∷ []) l ≡ some x
        → Alone f.table_id f.run l x
    each zero x at = same 0 p x a at
    each (suc zero) x at = same 1 q x b at
    each (suc (suc zero)) x at = same 2 r x c at
    each (suc (suc (suc l))) x at = absurd (some-ne-none x (sym at))

-- and none of them has fired
pub three_dealt : (f : Base) (vs : List Showing) (p q r : Showing) → f.run ≡ trio
    → CarriesOne 0 f p → CarriesOne 1 f q → CarriesOne 2 f r → vs ≡ p ∷ q ∷ r ∷ []
    → AreTrio f vs × (base 0 vs ≡ 0)
three_dealt f vs p q r is a b c all = subst (λ (xs : List Showing). AreTrio f xs × (base 0 xs ≡ 0))
    (sym all) (three f p q r is a b c, omega (arith, a.unfired 0, b.unfired 1, c.unfired 2))
