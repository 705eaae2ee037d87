-- The steps of a turnstile keep its rule.
use Rattle.std.proofs.Common.{◌≡◌, ◌≢◌, ℕ, zero, suc, ◌+◌, ◌<◌, ◌≤◌, ◌⊎◌, eqb, cond, Bool, true, false, List, [], ◌∷◌, length, get_or, set, Some, None, sym, refl, ap, ◌∙◌, subst, inl, inr, ⊎_elim, arith, sum_by, length-set, get_or-set_other, get_or-set_same, eq-eqb, ne_eqb}
use Rattle.std.proofs.lemmas.Bool.{false≢true}
use Rattle.std.proofs.lemmas.List.Sums.{sum_by-set}
use mathlib.Core.Logic.{dite}
use mathlib.Core.Option.{none, some, some-injective}
use native.Mathlib.Decide.{ℕ_discrete}
use lib.ListN.{get_elem?}
use lib.Seq.{set-get_or}
use prog.Atomic.{either}
use Rattle.atomic_table.specs.Table.{State, step, Act, keeps, takes, gives, Valid, carried_after, stepped, Allows}
use Rattle.atomic_table.proofs.Lists.{at_set, set_else, exchanged, set_here}
use Rattle.atomic_table.specs.Seated.{TableId}
use Rattle.ds_rule.specs.Run.{Run}
use Rattle.ds_rule.specs.Rule.{seen}
use Rattle.ds_rule.proofs.GetElemLemmas.{set_there, same_at, at_below, at_get}
use Rattle.ds_fabric.specs.Showing.{Showing}
use Rattle.ds_runner.specs.declared.turn_view.TurnView.{TurnView}
use Rattle.ds_runner.specs.declared.plays.Key.{Key}
use Rattle.ds_runner.specs.TurnstileRule.{Slot, Alone, fabric, run, sum_below, has_out, taken, nodes_of_key, Turning, TurnSeat, after_won_take, after_miss, after_give, took, rests_now, fetched, gave, spent_turn}

abbrev pub St : Type 0
St = State Slot TurnView

abbrev wheel : List ℕ → List (mathlib.Core.Option.Option Slot) → List TurnView → St
wheel ws hs vs = record { words = ws; homes = hs; views = vs }

-- a sum over the views, after one of them changed
pub sum_changed : (f : TurnView → ℕ) (vs : List TurnView) (id : ℕ) (v w : TurnView) → get_elem? vs id ≡ some v → sum_by f (set vs id w) + f v ≡ sum_by f vs + f w
sum_changed f vs id v w me = omega (arith, sum_by-set f vs id w v (at_below vs id v me), ap f (at_get vs id v v me))

pub sum_same : (f g : ℕ → ℕ) (n : ℕ) → ((j : ℕ) → j < n → f j ≡ g j) → sum_below f n ≡ sum_below g n
sum_same f g zero same = refl
sum_same f g (suc n) same = omega (arith, sum_same f g n (λ j h. same j (omega arith)), same n (omega arith))

sum_below_changed : (f g : ℕ → ℕ) (n l : ℕ) → l < n → ((j : ℕ) → j ≢ l → f j ≡ g j) → sum_below f n + g l ≡ sum_below g n + f l
sum_below_changed f g zero l h same = absurd (omega arith)
sum_below_changed f g (suc n) l h same = dite (ℕ_discrete l n)
    (λ e. omega (arith, sum_same f g n (λ j u. same j (λ t. omega arith)), ap f e, ap g e))
    (λ e. omega (arith, sum_below_changed f g n l (omega arith) same, same n (λ t. e (sym t))))

-- a step of the seat id that changes neither words nor slots, nor what the turn has
pub unmoved : (k : Key) (s : St) (o : Turning k s) (i id : ℕ) (v w : TurnView) → get_elem? s.views id ≡ some v → w.live ≡ v.live → w.permits ≡ v.permits → w.all_permits ≡ v.all_permits → w.out ≡ v.out → w.taken ≡ v.taken → w.busy ≡ v.busy → w.made ≡ v.made → w.fabric ≡ v.fabric → w.run ≡ v.run
    → Turning k (wheel (set s.words i (get_or s.words i 0)) s.homes (set s.views id w))
unmoved k s o i id v w me live permits turns out taken-is busy made fab runs = subst (λ (ws : List ℕ). Turning k (wheel ws s.homes (set s.views id w))) (sym (set-get_or s.words i 0)) (record {
  fires = o.fires;
  owner = o.owner;
  wide = o.wide;
  slots = o.slots;
  bits = o.bits;
  free = o.free;
  away = λ j h e. let a = o.away j h e in dite (ℕ_discrete (o.owner j) id)
      (λ mine. let u-is : a.0 ≡ v = same_at s.views id a.0 v (subst (λ i. get_elem? s.views i ≡ some a.0) mine a.1) me in (
        w,
        subst (λ i. get_elem? (set s.views id w) i ≡ some w) (sym mine) (set_there s.views id v w me),
        live ∙ (ap (λ (x : TurnView). x.live) (sym u-is) ∙ a.2),
        ap (λ (bs : List Bool). get_or bs j false) out ∙ (ap (λ (x : TurnView). has_out x j) (sym u-is) ∙ a.3),
        λ n. a.4 (λ b. n (busy ∙ (ap (λ (x : TurnView). x.busy) (sym u-is) ∙ b))),
      ))
      (λ other. (a.0, set_else s.views id (o.owner j) w other ∙ a.1, a.2, a.3, a.4));
  outs = λ i u j at lives has. ⊎_elim
      (λ t. let r = o.outs id v j me (sym live ∙ (ap (λ (x : TurnView). x.live) t.1 ∙ lives)) (ap (λ (bs : List Bool). get_or bs j false) (sym out) ∙ (ap (λ (x : TurnView). has_out x j) t.1 ∙ has)) in
      (r.0, r.1, r.2 ∙ sym t.0, ap (λ (x : TurnView). taken x j) (sym t.1) ∙ (ap (λ (ts : List ℕ). get_or ts j 0) taken-is ∙ r.3)))
      (λ t. o.outs i u j t.1 lives has)
      (at_set s.views id i w u at);
  long = λ i u at lives. ⊎_elim
      (λ t. let r = o.long id v me (sym live ∙ (ap (λ (x : TurnView). x.live) t.1 ∙ lives)) in
      (ap (λ (x : TurnView). length x.out) (sym t.1) ∙ (ap length out ∙ r.0), ap (λ (x : TurnView). length x.taken) (sym t.1) ∙ (ap length taken-is ∙ r.1), omega (arith, r.2, permits, ap (λ (x : TurnView). x.permits) t.1), ap (λ (x : TurnView). x.fabric) (sym t.1) ∙ (fab ∙ r.3), ap (λ (x : TurnView). x.run) (sym t.1) ∙ (runs ∙ r.4), ap (λ (x : TurnView). x.all_permits) (sym t.1) ∙ (turns ∙ r.5)))
      (λ t. o.long i u t.1 lives)
      (at_set s.views id i w u at);
  few = o.few;
  spent_made = λ i u at dead. ⊎_elim
      (λ t. ap (λ (x : TurnView). x.made) (sym t.1) ∙ (made ∙ o.spent_made id v me (sym live ∙ (ap (λ (x : TurnView). x.live) t.1 ∙ dead))))
      (λ t. o.spent_made i u t.1 dead)
      (at_set s.views id i w u at);
  whole = omega (arith, o.whole, sum_changed (λ (x : TurnView). x.permits) s.views id v w me, permits);
  total = omega (arith, o.total, sum_changed (λ (x : TurnView). x.made) s.views id v w me, made);
})

-- the rule after a change of the word, the slot and the turn of node l alone
changed : (k : Key) (s : St) (o : Turning k s) (id l bit : ℕ) (v w : TurnView) (h : mathlib.Core.Option.Option Slot) (fires owner : ℕ → ℕ) → get_elem? s.views id ≡ some v → v.live ≡ true → w.live ≡ true → l < nodes_of_key k → w.permits ≡ v.permits → w.all_permits ≡ v.all_permits → w.fabric ≡ v.fabric → w.run ≡ v.run
    → length w.out ≡ nodes_of_key k → length w.taken ≡ nodes_of_key k
    → ((j : ℕ) → j ≢ l → (fires j ≡ o.fires j) × (owner j ≡ o.owner j) × (has_out w j ≡ has_out v j) × (taken w j ≡ taken v j) × (w.busy ≢ j + 1 → v.busy ≢ j + 1))
    → (bit ≡ 0) ⊎ (bit ≡ 1)
    → (bit ≡ 0 → (p : Showing) × (h ≡ some (Some p)) × Alone (fabric k) (run k) l p × (seen p.view l ≡ fires l) × (has_out w l ≡ false))
    → (bit ≡ 1 → (owner l ≡ id) × (has_out w l ≡ true) × (taken w l ≡ fires l) × (w.busy ≢ l + 1 → h ≡ some None))
    → ((i : ℕ) (u : TurnView) → i ≢ id → get_elem? s.views i ≡ some u → u.live ≡ true → has_out u l ≡ true → ⊥)
    → sum_below fires (nodes_of_key k) + v.made ≡ sum_below o.fires (nodes_of_key k) + w.made
    → Turning k (wheel (set s.words l bit) (set s.homes l h) (set s.views id w))
changed k s o id l bit v w h fires owner me live live' near permits turns fab runs out-long taken-long else-same bits free away nobody made =
    let here : get_or (set s.words l bit) l 0 ≡ bit = get_or-set_same s.words l bit 0 (omega (arith, o.wide)) in
    let other : (j : ℕ) → j ≢ l → get_or (set s.words l bit) j 0 ≡ get_or s.words j 0 = λ j n. get_or-set_other s.words l j bit 0 n in
    let free-here : get_elem? (set s.homes l h) l ≡ some h = set_here s.homes l h (omega (arith, o.slots)) in
    let mine : get_elem? (set s.views id w) id ≡ some w = set_there s.views id v w me in record {
      fires = fires;
      owner = owner;
      wide = length-set s.words l bit ∙ o.wide;
      slots = length-set s.homes l h ∙ o.slots;
      bits = λ j b. dite (ℕ_discrete j l)
          (λ e. subst (λ (x : ℕ). (x ≡ 0) ⊎ (x ≡ 1)) (sym (ap (λ z. get_or (set s.words l bit) z 0) e ∙ here)) bits)
          (λ n. subst (λ (x : ℕ). (x ≡ 0) ⊎ (x ≡ 1)) (sym (other j n)) (o.bits j b));
      free = λ j b z. dite (ℕ_discrete j l)
          (λ e. let r = free (sym here ∙ (ap (λ y. get_or (set s.words l bit) y 0) (sym e) ∙ z)) in
          (r.0, ap (get_elem? (set s.homes l h)) e ∙ (free-here ∙ ap some r.1), subst (λ (y : ℕ). Alone (fabric k) (run k) y r.0) (sym e) r.2, ap (seen r.0.view) e ∙ (r.3 ∙ ap fires (sym e))))
          (λ n. let r = o.free j b (sym (other j n) ∙ z) in (r.0, set_else s.homes l j h n ∙ r.1, r.2, r.3 ∙ sym (else-same j n).0));
      away = λ j b z. dite (ℕ_discrete j l)
          (λ e. let r = away (sym here ∙ (ap (λ y. get_or (set s.words l bit) y 0) (sym e) ∙ z)) in
          (w, subst (λ i. get_elem? (set s.views id w) i ≡ some w) (sym (ap owner e ∙ r.0)) mine, live', ap (has_out w) e ∙ r.1, λ n. ap (get_elem? (set s.homes l h)) e ∙ (free-here ∙ ap some (r.3 (λ t. n (t ∙ ap (λ y. y + 1) (sym e)))))))
          (λ n. let a = o.away j b (sym (other j n) ∙ z) in let q = else-same j n in dite (ℕ_discrete (o.owner j) id)
          (λ own. let u-is : a.0 ≡ v = same_at s.views id a.0 v (subst (λ i. get_elem? s.views i ≡ some a.0) own a.1) me in (
            w,
            subst (λ i. get_elem? (set s.views id w) i ≡ some w) (sym (q.1 ∙ own)) mine,
            live',
            q.2 ∙ (ap (λ (x : TurnView). has_out x j) (sym u-is) ∙ a.3),
            λ m. set_else s.homes l j h n ∙ a.4 (λ t. q.4 m (ap (λ (x : TurnView). x.busy) (sym u-is) ∙ t)),
          ))
          (λ far. (a.0, subst (λ i. get_elem? (set s.views id w) i ≡ some a.0) (sym q.1) (set_else s.views id (o.owner j) w far ∙ a.1), a.2, a.3, λ m. set_else s.homes l j h n ∙ a.4 m)));
      outs = λ i u j at lives has. dite (ℕ_discrete j l)
          (λ e. ⊎_elim
          (λ t. let has' : has_out w l ≡ true = ap (λ (x : TurnView). has_out x l) t.1 ∙ (ap (has_out u) (sym e) ∙ has) in ⊎_elim
          (λ zero-bit. absurd (false≢true (sym (free zero-bit).4 ∙ has')))
          (λ one. let r = away one in
          (omega (arith, near, e), ap (λ z. get_or (set s.words l bit) z 0) e ∙ (here ∙ one), ap owner e ∙ (r.0 ∙ sym t.0), ap (taken u) e ∙ (ap (λ (x : TurnView). taken x l) (sym t.1) ∙ (r.2 ∙ ap fires (sym e)))))
          bits)
          (λ t. absurd (nobody i u t.0 t.1 lives (ap (has_out u) (sym e) ∙ has)))
          (at_set s.views id i w u at))
          (λ n. let q = else-same j n in ⊎_elim
          (λ t. let r = o.outs id v j me live (sym q.2 ∙ (ap (λ (x : TurnView). has_out x j) t.1 ∙ has)) in
          (r.0, other j n ∙ r.1, q.1 ∙ (r.2 ∙ sym t.0), ap (λ (x : TurnView). taken x j) (sym t.1) ∙ (q.3 ∙ (r.3 ∙ sym q.0))))
          (λ t. let r = o.outs i u j t.1 lives has in (r.0, other j n ∙ r.1, q.1 ∙ r.2, r.3 ∙ sym q.0))
          (at_set s.views id i w u at));
      long = λ i u at lives. ⊎_elim
          (λ t. let r = o.long id v me live in (ap (λ (x : TurnView). length x.out) (sym t.1) ∙ out-long, ap (λ (x : TurnView). length x.taken) (sym t.1) ∙ taken-long, omega (arith, r.2, permits, ap (λ (x : TurnView). x.permits) t.1), ap (λ (x : TurnView). x.fabric) (sym t.1) ∙ (fab ∙ r.3), ap (λ (x : TurnView). x.run) (sym t.1) ∙ (runs ∙ r.4), ap (λ (x : TurnView). x.all_permits) (sym t.1) ∙ (turns ∙ r.5)))
          (λ t. o.long i u t.1 lives)
          (at_set s.views id i w u at);
      few = o.few;
      spent_made = λ i u at dead. ⊎_elim
          (λ t. absurd (false≢true (sym (ap (λ (x : TurnView). x.live) t.1 ∙ dead) ∙ live')))
          (λ t. o.spent_made i u t.1 dead)
          (at_set s.views id i w u at);
      whole = omega (arith, o.whole, sum_changed (λ (x : TurnView). x.permits) s.views id v w me, permits);
      total = omega (arith, o.total, sum_changed (λ (x : TurnView). x.made) s.views id v w me, made);
    }

-- no turn has more permits than all
pub permits_low : (vs : List TurnView) (j : ℕ) (w : TurnView) → get_elem? vs j ≡ some w → w.permits ≤ sum_by (λ (x : TurnView). x.permits) vs
permits_low vs j w q = omega (arith, sum_changed (λ (x : TurnView). x.permits) vs j w spent_turn q)

-- two turns have no more permits than all
pub two_permits : (vs : List TurnView) (i j : ℕ) (v w : TurnView) → i ≢ j → get_elem? vs i ≡ some v → get_elem? vs j ≡ some w → v.permits + w.permits ≤ sum_by (λ (x : TurnView). x.permits) vs
two_permits vs i j v w n p q = omega (arith, sum_changed (λ (x : TurnView). x.permits) vs i v spent_turn p, permits_low (set vs i spent_turn) j w (set_else vs i j spent_turn (λ e. n (sym e)) ∙ q))

-- a turn with all permits finds the word of each node free that it does not have out itself
pub word_free : (k : Key) (s : St) (o : Turning k s) (id : ℕ) (v : TurnView) → get_elem? s.views id ≡ some v → v.live ≡ true → v.permits ≡ k.all_permits
    → (j : ℕ) → has_out v j ≡ false → j < nodes_of_key k → get_or s.words j 0 ≡ 0
word_free k s o id v me live all j free h = ⊎_elim (λ e. e)
    (λ e. let a = o.away j h e in dite (ℕ_discrete (o.owner j) id)
    (λ mine. let u-is : a.0 ≡ v = same_at s.views id a.0 v (subst (λ i. get_elem? s.views i ≡ some a.0) mine a.1) me in absurd (false≢true (sym free ∙ (ap (λ (x : TurnView). has_out x j) (sym u-is) ∙ a.3))))
    (λ far. absurd (omega (arith, two_permits s.views id (o.owner j) v a.0 (λ t. far (sym t)) me a.1, o.whole, (o.long (o.owner j) a.0 a.1 a.2).2))))
    (o.bits j h)

-- the owners after the seat k took the node l
abbrev moved : (ℕ → ℕ) → ℕ → ℕ → ℕ → ℕ
moved f l k j = cond (eqb j l) k (f j)

moved-here : (f : ℕ → ℕ) (l k : ℕ) → moved f l k l ≡ k
moved-here f l k = ap (λ b. cond b k (f l)) (eq-eqb l l refl)

moved-else : (f : ℕ → ℕ) (l k j : ℕ) → j ≢ l → moved f l k j ≡ f j
moved-else f l k j n = ap (λ b. cond b k (f j)) (ne_eqb j l n)

abbrev Goes : Key → St → ℕ → ℕ → TurnSeat → (ℕ → TurnSeat → Type 0) → ℕ → Type 0
Goes k s i id m then y = (w : TurnView) × (a : Act Slot) × Valid s.homes m.1 a × Turning k (stepped s i y id m.1 w a) × then (get_or s.words i 0) (w, carried_after m.1 a)

pub takes_pass : (k : Key) (n id : ℕ) (v : TurnView) (l : ℕ) (said : mathlib.Core.Option.Option Slot) → v.live ≡ true → v.busy ≡ 0 → has_out v l ≡ false → l < nodes_of_key k
    → Allows (Turning k) n id (v, []) l (λ y. either (eqb y 0) 1 y) (took (step n l 0 1 said) (v, []))
takes_pass k n id v l said live idle free near s o wide me _ =
    let x : ℕ = get_or s.words l 0 in let long = o.long id v me live in
    exchanged x 0 1 (Goes k s l id (v, []) (took (step n l 0 1 said) (v, [])))
    (λ e. let h = o.free l near e in let p : Showing = h.0 in let f : ℕ = seen p.view l in let w : TurnView = after_won_take v l f in (
      w,
      takes l (Some p),
      h.1,
      changed k s o id l 1 v w none o.fires (moved o.owner l id) me live live near refl refl refl refl (length-set v.out l true ∙ long.0) (length-set v.taken l f ∙ long.1)
          (λ j ne. (refl, moved-else o.owner l id j ne, get_or-set_other v.out l j true false ne, get_or-set_other v.taken l j f 0 ne, λ _ b. omega arith))
          (inr refl)
          (λ z. absurd (omega arith))
          (λ _. (moved-here o.owner l id, get_or-set_same v.out l true false (omega (arith, long.0)), get_or-set_same v.taken l f 0 (omega (arith, long.1)) ∙ h.3, λ t. absurd (t refl)))
          (λ i u ne at lives has. absurd (omega (arith, e, (o.outs i u l at lives has).1)))
          refl,
      ((λ _. (p, subst (λ (r : Run). Alone v.fabric r l p) (sym long.4) (subst (λ (z : TableId). Alone z (run k) l p) (sym long.3) h.2), omega (arith, long.0), refl)), λ ne. absurd (ne e)),
    ))
    (λ ne. (after_miss v l, keeps, tt, unmoved k s o l id v (after_miss v l) me refl refl refl refl refl refl refl refl refl, ((λ e. absurd (ne e)), λ _. (refl, λ all. ne (word_free k s o id v me live (all ∙ long.5) l free near)))))

-- the empty slot goes back
pub rests : (k : Key) (n id : ℕ) (v : TurnView) (l : ℕ) → v.live ≡ true → v.busy ≡ l + 1 → has_out v l ≡ true
    → Allows (Turning k) n id (v, (l, None) ∷ []) l (λ y. y) (rests_now (step n l 0 0 none) (v, (l, None) ∷ []))
rests k n id v l live busy has s o wide me _ =
    let r = o.outs id v l me live has in let w : TurnView = record v { busy = 0 } in let long = o.long id v me live in let x : ℕ = get_or s.words l 0 in (
      w,
      gives,
      tt,
      subst (λ (z : ℕ). Turning k (wheel (set s.words l z) (set s.homes l (some None)) (set s.views id w))) (sym r.1)
          (changed k s o id l 1 v w (some None) o.fires o.owner me live live r.0 refl refl refl refl long.0 long.1
          (λ j ne. (refl, refl, refl, refl, λ _ b. ne (omega arith)))
          (inr refl)
          (λ z. absurd (omega arith))
          (λ _. (r.2, has, r.3, λ _. refl))
          (λ i u ne at lives has'. ne (sym (o.outs i u l at lives has').2 ∙ r.2))
          refl),
      refl,
    )

-- the empty slot comes to hand
pub fetches : (k : Key) (n id : ℕ) (v : TurnView) (l : ℕ) → v.live ≡ true → v.busy ≡ 0 → has_out v l ≡ true
    → Allows (Turning k) n id (v, []) l (λ y. y) (fetched (step n l 0 0 none) (v, []))
fetches k n id v l live idle has s o wide me _ =
    let r = o.outs id v l me live has in let w : TurnView = record v { busy = l + 1 } in let long = o.long id v me live in
    let a = o.away l r.0 r.1 in let u-is : a.0 ≡ v = same_at s.views id a.0 v (subst (λ i. get_elem? s.views i ≡ some a.0) r.2 a.1) me in (
      w,
      takes l None,
      a.4 (λ b. absurd (omega (arith, b, ap (λ (x : TurnView). x.busy) u-is))),
      subst (λ (z : ℕ). Turning k (wheel (set s.words l z) (set s.homes l none) (set s.views id w))) (sym r.1)
          (changed k s o id l 1 v w none o.fires o.owner me live live r.0 refl refl refl refl long.0 long.1
          (λ j ne. (refl, refl, refl, refl, λ _ b. omega arith))
          (inr refl)
          (λ z. absurd (omega arith))
          (λ _. (r.2, has, r.3, λ t. absurd (t refl)))
          (λ i y ne at lives has'. ne (sym (o.outs i y l at lives has').2 ∙ r.2))
          refl),
      refl,
    )

-- the firings of the pass in hand
in_hand : ℕ → List (ℕ × Slot) → ℕ
in_hand l [] = 0
in_hand l (x ∷ xs) = elim x.1 [ None ↦ 0 | Some p ↦ seen p.view l ]

same_pass : (l : ℕ) (p q : Showing) → ◌≡◌ {A = List (ℕ × Slot)} ((l, Some p) ∷ []) ((l, Some q) ∷ []) → seen p.view l ≡ seen q.view l
unfolding in_hand
same_pass l p q e = ap (in_hand l) e

-- the slot goes back with the pass
pub gives_pass : (k : Key) (n id : ℕ) (v : TurnView) (l : ℕ) (p : Showing) → v.live ≡ true → v.busy ≡ l + 1 → has_out v l ≡ true → Alone v.fabric v.run l p → taken v l ≤ seen p.view l
    → Allows (Turning k) n id (v, (l, Some p) ∷ []) l (λ _. 0) (λ _. gave (step n l 0 0 none) (v, (l, Some p) ∷ []) 0)
gives_pass k n id v l p live busy has alone up s o wide me _ =
    let r = o.outs id v l me live has in let f : ℕ = seen p.view l in let w : TurnView = after_give v l f in let long = o.long id v me live in (
      w,
      gives,
      tt,
      changed k s o id l 0 v w (some (Some p)) (moved o.fires l f) o.owner me live live r.0 refl refl refl refl (length-set v.out l false ∙ long.0) long.1
          (λ j ne. (moved-else o.fires l f j ne, refl, get_or-set_other v.out l j false false ne, refl, λ _ b. ne (omega arith)))
          (inl refl)
          (λ _. (p, refl, subst (λ (r : Run). Alone (fabric k) r l p) long.4 (subst (λ (z : TableId). Alone z v.run l p) long.3 alone), sym (moved-here o.fires l f), get_or-set_same v.out l false false (omega (arith, long.0, r.0))))
          (λ z. absurd (omega arith))
          (λ i u ne at lives has'. ne (sym (o.outs i u l at lives has').2 ∙ r.2))
          (omega (arith, sum_below_changed (moved o.fires l f) o.fires (nodes_of_key k) l r.0 (λ j ne. moved-else o.fires l f j ne), moved-here o.fires l f, r.3)),
      (λ q e. ap (λ (y : ℕ). (after_give v l y, [])) (same_pass l p q e)),
    )
