-- Turns are split and joined, and the last turn finds every pass free.
use Rattle.std.proofs.Common.{◌≡◌, ◌≢◌, ℕ, zero, suc, refl, Bool, ◌+◌, ◌<◌, true, false, List, [], ◌∷◌, length, set, sym, ap, ◌∙◌, subst, ⊎_elim, arith, sum_by}
use Rattle.std.proofs.lemmas.Bool.{false≢true}
use Rattle.std.proofs.lemmas.List.{length-replicate}
use Rattle.std.proofs.lemmas.List.Sums.{sum_by-append, sum_by-cons}
use mathlib.Core.Logic.{dite}
use mathlib.Core.Option.{none, some, some-ne-none, some-injective}
use native.Mathlib.Decide.{ℕ_discrete}
use lib.ListN.{get_elem?}
use Rattle.atomic_table.specs.Table.{Splits, Joins, Allows, step, keeps}
use Rattle.atomic_table.proofs.Lists.{at_set, set_else, at_longer}
use Rattle.ds_rule.specs.Rule.{seen}
use Rattle.ds_rule.proofs.GetElemLemmas.{set_there, same_at, at_end, replicate-default, there_is}
use Rattle.ds_runner.specs.declared.turn_view.TurnView.{TurnView}
use Rattle.ds_runner.specs.declared.plays.Key.{Key}
use Rattle.std.proofs.Common.{Some}
use Rattle.ds_fabric.specs.Showing.{Showing}
use Rattle.ds_runner.specs.TurnstileRule.{Slot, Alone, fabric, run, has_out, taken, nodes_of_key, Turning, TurnSeat, base, sum_below, observed_permits, keeps_permits, one_permit, joined, spent_turn}
use Rattle.ds_runner.proofs.TurnstileRuleLemmas.{St, sum_changed, sum_same, unmoved, permits_low, two_permits, word_free}
use Rattle.ds_runner.proofs.TurnstileAtStart.{fires_of, fires-at, sum-fires}

pub splits : (k : Key) (id : ℕ) (v : TurnView) → v.live ≡ true → 1 < v.permits → Splits (Turning k) id v (keeps_permits v) (one_permit v)
splits k id v live some-permits s o me =
    let left : TurnView = keeps_permits v in let right : TurnView = one_permit v in let vs : List TurnView = set s.views id left in let long = o.long id v me live in
    let none-out : (j : ℕ) → has_out right j ≡ false = λ j. replicate-default (length v.out) j false in record {
      fires = o.fires;
      owner = o.owner;
      wide = o.wide;
      slots = o.slots;
      bits = o.bits;
      free = o.free;
      away = λ j h e. let a = o.away j h e in dite (ℕ_discrete (o.owner j) id)
          (λ mine. let u-is : a.0 ≡ v = same_at s.views id a.0 v (subst (λ i. get_elem? s.views i ≡ some a.0) mine a.1) me in (
            left,
            at_longer vs (right ∷ []) (o.owner j) left (subst (λ i. get_elem? vs i ≡ some left) (sym mine) (set_there s.views id v left me)),
            live,
            ap (λ (x : TurnView). has_out x j) (sym u-is) ∙ a.3,
            λ n. a.4 (λ b. n (ap (λ (x : TurnView). x.busy) (sym u-is) ∙ b)),
          ))
          (λ far. (a.0, at_longer vs (right ∷ []) (o.owner j) a.0 (set_else s.views id (o.owner j) left far ∙ a.1), a.2, a.3, a.4));
      outs = λ i u j at lives has. ⊎_elim
          (λ old. ⊎_elim
          (λ t. let r = o.outs id v j me live (ap (λ (x : TurnView). has_out x j) t.1 ∙ has) in (r.0, r.1, r.2 ∙ sym t.0, ap (λ (x : TurnView). taken x j) (sym t.1) ∙ r.3))
          (λ t. o.outs i u j t.1 lives has)
          (at_set s.views id i left u old))
          (λ t. absurd (false≢true (sym (none-out j) ∙ (ap (λ (x : TurnView). has_out x j) t.1 ∙ has))))
          (at_end vs right u i at);
      long = λ i u at lives. ⊎_elim
          (λ old. ⊎_elim
          (λ t. (ap (λ (x : TurnView). length x.out) (sym t.1) ∙ long.0, ap (λ (x : TurnView). length x.taken) (sym t.1) ∙ long.1, omega (arith, ap (λ (x : TurnView). x.permits) t.1), ap (λ (x : TurnView). x.fabric) (sym t.1) ∙ long.3, ap (λ (x : TurnView). x.run) (sym t.1) ∙ long.4, ap (λ (x : TurnView). x.all_permits) (sym t.1) ∙ long.5))
          (λ t. o.long i u t.1 lives)
          (at_set s.views id i left u old))
          (λ t. (ap (λ (x : TurnView). length x.out) (sym t.1) ∙ (length-replicate (length v.out) false ∙ long.0), ap (λ (x : TurnView). length x.taken) (sym t.1) ∙ (length-replicate (length v.taken) 0 ∙ long.1), omega (arith, ap (λ (x : TurnView). x.permits) t.1), ap (λ (x : TurnView). x.fabric) (sym t.1) ∙ long.3, ap (λ (x : TurnView). x.run) (sym t.1) ∙ long.4, ap (λ (x : TurnView). x.all_permits) (sym t.1) ∙ long.5))
          (at_end vs right u i at);
      few = o.few;
      spent_made = λ i u at dead. ⊎_elim
          (λ old. ⊎_elim
          (λ t. absurd (false≢true (sym (ap (λ (x : TurnView). x.live) t.1 ∙ dead) ∙ live)))
          (λ t. o.spent_made i u t.1 dead)
          (at_set s.views id i left u old))
          (λ t. absurd (false≢true (sym (ap (λ (x : TurnView). x.live) t.1 ∙ dead))))
          (at_end vs right u i at);
      whole = omega (arith, o.whole, sum_changed (λ (x : TurnView). x.permits) s.views id v left me, sum_by-append (λ (x : TurnView). x.permits) vs (right ∷ []));
      total = omega (arith, o.total, sum_changed (λ (x : TurnView). x.made) s.views id v left me, sum_by-append (λ (x : TurnView). x.made) vs (right ∷ []));
    }

-- a turn with no node out is taken in
pub joins : (k : Key) (id other : ℕ) (v w : TurnView) → v.live ≡ true → w.live ≡ true → ((j : ℕ) → has_out w j ≡ false) → Joins (Turning k) id v other w (joined v w) spent_turn
joins k id other v w live live' none-out s o me apart him =
    let u : TurnView = joined v w in let vs : List TurnView = set s.views id u in let long = o.long id v me live in
    let him' : get_elem? s.views other ≡ some w = sym (set_else s.views id other u apart) ∙ him in
    let here : get_elem? (set vs other spent_turn) id ≡ some u = set_else vs other id spent_turn (λ e. apart (sym e)) ∙ set_there s.views id v u me in record {
      fires = o.fires;
      owner = o.owner;
      wide = o.wide;
      slots = o.slots;
      bits = o.bits;
      free = o.free;
      away = λ j h e. let a = o.away j h e in dite (ℕ_discrete (o.owner j) id)
          (λ mine. let u-is : a.0 ≡ v = same_at s.views id a.0 v (subst (λ i. get_elem? s.views i ≡ some a.0) mine a.1) me in (
            u,
            subst (λ i. get_elem? (set vs other spent_turn) i ≡ some u) (sym mine) here,
            live,
            ap (λ (x : TurnView). has_out x j) (sym u-is) ∙ a.3,
            λ n. a.4 (λ b. n (ap (λ (x : TurnView). x.busy) (sym u-is) ∙ b)),
          ))
          (λ far. let off : o.owner j ≢ other = λ t. false≢true (sym (none-out j) ∙ (ap (λ (x : TurnView). has_out x j) (same_at s.views other w a.0 him' (subst (λ i. get_elem? s.views i ≡ some a.0) t a.1)) ∙ a.3)) in
          (a.0, set_else vs other (o.owner j) spent_turn off ∙ (set_else s.views id (o.owner j) u far ∙ a.1), a.2, a.3, a.4));
      outs = λ i x j at lives has. ⊎_elim
          (λ t. absurd (false≢true (ap (λ (y : TurnView). y.live) t.1 ∙ lives)))
          (λ t. ⊎_elim
          (λ r. let q = o.outs id v j me live (ap (λ (y : TurnView). has_out y j) r.1 ∙ has) in (q.0, q.1, q.2 ∙ sym r.0, ap (λ (y : TurnView). taken y j) (sym r.1) ∙ q.3))
          (λ r. o.outs i x j r.1 lives has)
          (at_set s.views id i u x t.1))
          (at_set vs other i spent_turn x at);
      long = λ i x at lives. ⊎_elim
          (λ t. absurd (false≢true (ap (λ (y : TurnView). y.live) t.1 ∙ lives)))
          (λ t. ⊎_elim
          (λ r. (
            ap (λ (y : TurnView). length y.out) (sym r.1) ∙ long.0,
            ap (λ (y : TurnView). length y.taken) (sym r.1) ∙ long.1,
            omega (arith, long.2, ap (λ (y : TurnView). y.permits) r.1),
            ap (λ (y : TurnView). y.fabric) (sym r.1) ∙ long.3,
            ap (λ (y : TurnView). y.run) (sym r.1) ∙ long.4,
            ap (λ (y : TurnView). y.all_permits) (sym r.1) ∙ long.5,
          ))
          (λ r. o.long i x r.1 lives)
          (at_set s.views id i u x t.1))
          (at_set vs other i spent_turn x at);
      few = o.few;
      spent_made = λ i x at dead. ⊎_elim
          (λ t. ap (λ (y : TurnView). y.made) (sym t.1))
          (λ t. ⊎_elim
          (λ r. absurd (false≢true (sym (ap (λ (y : TurnView). y.live) r.1 ∙ dead) ∙ live)))
          (λ r. o.spent_made i x r.1 dead)
          (at_set s.views id i u x t.1))
          (at_set vs other i spent_turn x at);
      whole = omega (arith, o.whole, sum_changed (λ (x : TurnView). x.permits) s.views id v u me, sum_changed (λ (x : TurnView). x.permits) vs other w spent_turn him);
      total = omega (arith, o.total, sum_changed (λ (x : TurnView). x.made) s.views id v u me, sum_changed (λ (x : TurnView). x.made) vs other w spent_turn him);
    }

-- a load tells how many permits there may be
pub observes_permits : (k : Key) (n id : ℕ) (m : TurnSeat)
    → Allows (Turning k) n id m 0 (λ y. y) (observed_permits (step n 0 0 0 none) m)
observes_permits k n id m s o wide me _ = (
  m.0,
  keeps,
  tt,
  unmoved k s o 0 id m.0 m.0 me refl refl refl refl refl refl refl refl refl,
  (refl, omega (arith, permits_low s.views id m.0 me, o.whole, o.few)),
)

-- the turn that has all permits and no node out finds the pass of every node in its slot
pub every_pass_free : (k : Key) (s : St) (o : Turning k s) (id : ℕ) (v : TurnView) → get_elem? s.views id ≡ some v → v.live ≡ true → v.permits ≡ k.all_permits → ((j : ℕ) → has_out v j ≡ false)
    → (xs : List Slot) → length s.homes ≡ length xs → ((j : ℕ) (y : Slot) → get_elem? s.homes j ≡ some (some y) → get_elem? xs j ≡ some y)
    → (l : ℕ) → l < nodes_of_key k → (p : Showing) × (get_elem? xs l ≡ some (Some p)) × Alone (fabric k) (run k) l p × (seen p.view l ≡ o.fires l)
every_pass_free k s o id v me live all none-out xs long stay l near =
    let r = o.free l near (word_free k s o id v me live all l (none-out l) near) in (r.0, stay l (Some r.0) r.1, r.2, r.3)

abbrev made-of : TurnView → ℕ
made-of v = v.made

none_made : (vs : List TurnView) → ((j : ℕ) (w : TurnView) → get_elem? vs j ≡ some w → w.made ≡ 0) → sum_by (λ (x : TurnView). x.made) vs ≡ 0
none_made [] zeros = refl
none_made (x ∷ vs) zeros = omega (arith, sum_by-cons made-of x vs, zeros 0 x refl, none_made vs (λ j w at. zeros (suc j) w at))

only_made : (vs : List TurnView) (id : ℕ) (v : TurnView) → get_elem? vs id ≡ some v → ((j : ℕ) (w : TurnView) → j ≢ id → get_elem? vs j ≡ some w → w.made ≡ 0)
    → sum_by (λ (x : TurnView). x.made) vs ≡ v.made
only_made [] id v at zeros = absurd (some-ne-none v (sym at))
only_made (x ∷ vs) zero v at zeros = omega (arith, sum_by-cons made-of x vs, ap made-of (some-injective x v at), none_made vs (λ j w there. zeros (suc j) w (λ e. omega (arith, e)) there))
only_made (x ∷ vs) (suc id) v at zeros = omega (arith, sum_by-cons made-of x vs, zeros 0 x (λ e. omega (arith, e)) refl, only_made vs id v at (λ j w n there. zeros (suc j) w (λ e. n (omega (arith, e))) there))

-- beside a turn with all permits no other has made a firing
made_zero : (k : Key) (s : St) (o : Turning k s) (id : ℕ) (v : TurnView) → get_elem? s.views id ≡ some v → v.permits ≡ k.all_permits
    → (j : ℕ) (w : TurnView) → j ≢ id → get_elem? s.views j ≡ some w → (b : Bool) → w.live ≡ b → w.made ≡ 0
made_zero k s o id v me all j w n at true e = absurd (omega (arith, two_permits s.views id j v w (λ t. n (sym t)) me at, o.whole, (o.long j w at e).2))
made_zero k s o id v me all j w n at false e = o.spent_made j w at e

-- passes with the firings that the rule tells have so many more than at the start
pub made_more : (k : Key) (s : St) (o : Turning k s) (id : ℕ) (v : TurnView) → get_elem? s.views id ≡ some v → v.permits ≡ k.all_permits
    → (ps : List Showing) → length ps ≡ nodes_of_key k → ((l : ℕ) (p : Showing) → get_elem? ps l ≡ some p → seen p.view l ≡ o.fires l)
    → base 0 ps ≡ base 0 k.passes.value.items + v.made
made_more k s o id v me all ps long each =
    let same : (j : ℕ) → j < length ps → fires_of ps 0 j ≡ o.fires j = λ j h. let r = there_is ps j h in let e : 0 + j ≡ j = omega arith in
    fires-at ps 0 j r.0 r.1 ∙ (ap (seen r.0.view) e ∙ each j r.0 r.1) in
    omega (
      arith,
      sum-fires ps 0,
      sum_same (fires_of ps 0) o.fires (length ps) same,
      ap (sum_below o.fires) long,
      o.total,
      only_made s.views id v me (λ j w n at. made_zero k s o id v me all j w n at w.live refl),
    )
