-- A turnstile at the start: every pass is free, and the first turn has all permits.
use Rattle.std.proofs.Common.{◌≡◌, ℕ, zero, suc, ◌+◌, ◌<◌, Bool, false, List, [], ◌∷◌, length, get_or, map, replicate, Some, sym, refl, ap, ◌∙◌, inl, arith}
use Rattle.std.proofs.lemmas.Bool.{false≢true}
use Rattle.std.proofs.lemmas.List.{length-replicate, length-map}
use mathlib.Core.Option.{some, some-ne-none, some-injective}
use lib.ListN.{get_elem?}
use Rattle.atomic_table.specs.Table.{opening}
use Rattle.atomic_table.proofs.Lists.{at_map}
use Rattle.ds_rule.specs.Rule.{seen}
use Rattle.ds_rule.proofs.GetElemLemmas.{there_is, replicate-default, only_item}
use Rattle.ds_fabric.specs.Showing.{Showing}
use Rattle.ds_runner.specs.declared.turn_view.TurnView.{TurnView}
use Rattle.ds_runner.specs.declared.plays.Key.{Key}
use Rattle.ds_runner.specs.TurnstileRule.{Alone, fabric, run, nodes_of_key, base, sum_below, has_out, Turning, first_turn}

-- the firings of each pass of a list, whose first one holds the node b
pub fires_of : List Showing → ℕ → ℕ → ℕ
fires_of [] b l = 0
fires_of (p ∷ ps) b zero = seen p.view b
fires_of (p ∷ ps) b (suc l) = fires_of ps (suc b) l

pub fires-at : (ps : List Showing) (b l : ℕ) (p : Showing) → get_elem? ps l ≡ some p → fires_of ps b l ≡ seen p.view (b + l)
unfolding fires_of
fires-at [] b l p at = absurd (some-ne-none p (sym at))
fires-at (q ∷ ps) b zero p at = let e : b ≡ b + 0 = omega arith in ap (λ (x : Showing). seen x.view b) (some-injective q p at) ∙ ap (seen p.view) e
fires-at (q ∷ ps) b (suc l) p at = let e : suc b + l ≡ b + suc l = omega arith in fires-at ps (suc b) l p at ∙ ap (seen p.view) e

sum-first : (f : ℕ → ℕ) (n : ℕ) → sum_below f (suc n) ≡ f 0 + sum_below (λ i. f (suc i)) n
sum-first f zero = omega arith
sum-first f (suc n) = omega (arith, sum-first f n)

pub sum-fires : (ps : List Showing) (b : ℕ) → sum_below (fires_of ps b) (length ps) ≡ base b ps
unfolding fires_of
sum-fires [] b = refl
sum-fires (p ∷ ps) b = sum-first (fires_of (p ∷ ps) b) (length ps) ∙ omega (arith, sum-fires ps (suc b))

pub turning_starts : (k : Key) → 0 < k.all_permits → k.all_permits < 4294967296 → ((l : ℕ) (p : Showing) → get_elem? k.passes.value.items l ≡ some p → Alone (fabric k) (run k) l p)
    → Turning k (opening (replicate (nodes_of_key k) 0) (map Some k.passes.value.items) (first_turn k))
turning_starts k some-turns few each = let ps : List Showing = k.passes.value.items in let v : TurnView = first_turn k in
    let zero-at : (l : ℕ) → get_or (replicate (nodes_of_key k) 0) l 0 ≡ 0 = λ l. replicate-default {A = ℕ} (nodes_of_key k) l 0 in
    let none-out : (l : ℕ) → has_out v l ≡ false = λ l. replicate-default {A = Bool} (nodes_of_key k) l false in record {
      fires = fires_of ps 0;
      owner = λ _. 0;
      wide = length-replicate (nodes_of_key k) 0;
      slots = length-map (map Some ps) some ∙ length-map ps Some;
      bits = λ l h. inl (zero-at l);
      free = λ l h z. let r = there_is ps l h in
          (r.0, at_map some (map Some ps) l (Some r.0) (at_map Some ps l r.0 r.1), each l r.0 r.1, sym (fires-at ps 0 l r.0 r.1 ∙ (let e : 0 + l ≡ l = omega arith in ap (seen r.0.view) e)));
      away = λ l h o. absurd (omega (arith, zero-at l));
      outs = λ id u l at lives has. let t = only_item v u id at in absurd (false≢true (sym (none-out l) ∙ (ap (λ (x : TurnView). has_out x l) t.1 ∙ has)));
      long = λ id u at lives. let t = only_item v u id at in (
        ap (λ (x : TurnView). length x.out) (sym t.1) ∙ length-replicate (nodes_of_key k) false,
        ap (λ (x : TurnView). length x.taken) (sym t.1) ∙ length-replicate (nodes_of_key k) 0,
        omega (arith, ap (λ (x : TurnView). x.permits) t.1),
        ap (λ (x : TurnView). x.fabric) (sym t.1),
        ap (λ (x : TurnView). x.run) (sym t.1),
        ap (λ (x : TurnView). x.all_permits) (sym t.1),
      );
      few = few;
      spent_made = λ id u at dead. let t = only_item v u id at in absurd (false≢true (sym (ap (λ (x : TurnView). x.live) t.1 ∙ dead)));
      whole = omega arith;
      total = omega (arith, sum-fires ps 0);
    }
