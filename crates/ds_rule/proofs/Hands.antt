-- A deal and a gather keep the rule, and what the last pass tells at the end.
use Rattle.std.proofs.Common.{◌≡◌, ℕ, ◌<◌, ◌≢◌, eqb, cond, max, ◌||◌, ◌&&◌, Bool, true, false}
use Rattle.std.proofs.Common.{List, [], ◌∷◌, ◌++◌, length, get_or, set, sym, refl, ap, ◌∙◌, subst}
use Rattle.std.proofs.Common.{⊎_elim, arith, length-set}
use Rattle.std.proofs.Common.{get_or-set_other, get_or-set_same, replicate, eq-eqb, ne_eqb}
use Rattle.std.proofs.lemmas.Bool.{false≢true}
use Rattle.std.proofs.Math.Bool.{or-false, or-true, true-or, and-false, false-and}
use Rattle.std.proofs.lemmas.List.{length-replicate}
use prog.Atomic.{either}
use mathlib.Core.Logic.{dite}
use mathlib.Core.Option.{none, some}
use native.Mathlib.Decide.{ℕ_discrete, dec_lt}
use lib.ListN.{get_elem?}
use Rattle.atomic_table.specs.Table.{step, keeps, Allows, Splits, Joins}
use Rattle.atomic_table.proofs.Lists.{at_set, set_else, at_longer, at_last, exchanged}
use Rattle.ds_rule.specs.Run.{Run, events, node_of, turns}
use Rattle.ds_rule.specs.Log.{node_count_in_log, Recorded}
use Rattle.ds_rule.specs.Rule.{holds, tickets, seen, Fits, Lawful}
use Rattle.ds_rule.specs.Plays.{Sat, with_cut, chose_cut, observed, without_cut, only_cut, taken_in}
use Rattle.ds_rule.specs.Plays.{spent}
use Rattle.ds_rule.specs.declared.view.View.{View}
use Rattle.ds_rule.proofs.GetElemLemmas.{by_bool, set_there, same_at, at_end, replicate-default}
use Rattle.ds_rule.proofs.GetElemLemmas.{length-listed, get-listed, get-beyond, has_below}
use Rattle.ds_rule.proofs.EventLaws.{event_below}
use Rattle.ds_rule.proofs.LogCounts.{length-tickets_in_log, count_in_log-turns}
use Rattle.ds_rule.proofs.PassAtRest.{St, inside, Rests, rests, moves, to_rest, unwritten}
use Rattle.ds_rule.proofs.StepKeepsRule.{unmoved, disjoint_holdings}

-- an exchange of a word for itself, whatever it is
pub chooses_cut : (run : Run) (n id : ℕ) (m : Sat) (l : ℕ) → m.0.live ≡ true → m.0.phase ≡ 0
    → Allows (Lawful run) n id m 0 (λ r. either (eqb r l) l r) (chose_cut (step n 0 l l none) m)
chooses_cut run n id m l live rest s o wide me _ = let v : View = m.0 in let f = o.views id v me live in
    let w : View = with_cut v l in let r : ℕ = get_or s.words 0 0 in
    let mine : Fits run s.words o.log o.owner id w =
    to_rest run s.words o.log o.owner id w (record {
      same_run = f.same_run;
      held_long = f.held_long;
      tickets_long = f.tickets_long;
      seen_long = f.seen_long;
      phase = rest;
      written = unwritten f rest;
    }) f.owns (λ x h. moves w (rests f rest x h) refl
    (λ e at. refl)) f.known f.known_drawn f.no_clash in
    let same : either (eqb r l) l r ≡ r = exchanged r l l (λ x. x ≡ r) (λ e. sym e) (λ _. refl) in (
      w,
      keeps,
      tt,
      subst (λ (x : ℕ). Lawful run
          (record { words = set s.words 0 x; homes = s.homes; views = set s.views id w }))
          (sym same) (unmoved run s o 0 id v w me live (λ x. refl) mine),
      refl,
    )

-- with no ticket drawn, each event that is held has the tickets of the log
pub quiet : {run : Run} {ws log : List ℕ} {owner : ℕ → ℕ} {id : ℕ} {v : View}
    → Fits run ws log owner id v → v.phase ≡ 0 → (e : ℕ) → holds v (node_of run e) ≡ true
    → Rattle.ds_rule.specs.Log.tickets_in_log e log ≡ tickets v e
quiet {run = run} f rest e h = (rests f rest (node_of run e) h).kept e refl

pub observes : (run : Run) (n id : ℕ) (m : Sat) (i : ℕ) → m.0.live ≡ true → m.0.phase ≡ 0
    → Allows (Lawful run) n id m i (λ y. y) (observed (step n i 0 0 none) m)
observes run n id m i live rest s o wide me _ = let v : View = m.0 in let f = o.views id v me live in
    let Told : Run → Type 0 = λ r. (e : ℕ) → holds v (node_of r e) ≡ true
    → turns r e (seen v (node_of r e)) ≡ length (tickets v e) in
    let told : Told run = λ e h. ap (turns run e) (sym (rests f rest (node_of run e) h).logged)
    ∙ (sym (count_in_log-turns run e o.log o.in_turn)
    ∙ (sym (length-tickets_in_log e o.log) ∙ ap length (quiet f rest e h))) in (
      v,
      keeps,
      tt,
      unmoved run s o i id v v me live (λ x. refl) f,
      (refl, subst Told (sym f.same_run) told, f.no_clash),
    )

-- the same view and words, with another list of owners
owned : {run : Run} {ws log : List ℕ} {owner : ℕ → ℕ} {id : ℕ} {v : View} (owner' : ℕ → ℕ)
    → Fits run ws log owner id v → ((l : ℕ) → holds v l ≡ true → owner' l ≡ owner l)
    → Fits run ws log owner' id v
owned owner' f same = record {
  same_run = f.same_run;
  held_long = f.held_long;
  tickets_long = f.tickets_long;
  seen_long = f.seen_long;
  owns = λ l h. same l h ∙ f.owns l h;
  counted = f.counted;
  logged = f.logged;
  known = f.known;
  kept = f.kept;
  known_drawn = f.known_drawn;
  values = f.values;
  writes = f.writes;
  flies = f.flies;
  no_clash = f.no_clash;
}

-- the owners after the node c went to the seat k
abbrev moved : (ℕ → ℕ) → ℕ → ℕ → ℕ → ℕ
moved owner c k l = cond (eqb l c) k (owner l)

moved-here : (owner : ℕ → ℕ) (c k l : ℕ) → l ≡ c → moved owner c k l ≡ k
moved-here owner c k l e = ap (λ b. cond b k (owner l)) (eq-eqb l c e)

moved-else : (owner : ℕ → ℕ) (c k l : ℕ) → l ≢ c → moved owner c k l ≡ owner l
moved-else owner c k l n = ap (λ b. cond b k (owner l)) (ne_eqb l c n)

pub deals : (run : Run) (id : ℕ) (v : View) → v.live ≡ true → v.phase ≡ 0 → holds v v.cut ≡ true
    → Splits (Lawful run) id v (without_cut v) (only_cut v)
deals run id v live rest has s o me =
    let c : ℕ = v.cut in let k : ℕ = length s.views in let f = o.views id v me live in
    let left : View = without_cut v in let right : View = only_cut v in
    let near : c < length v.holds = has_below v.holds c has in
    let owner : ℕ → ℕ = moved o.owner c k in let vs : List View = set s.views id left in
    let long : length vs ≡ k = length-set s.views id left in
    let lost : holds left c ≡ false = get_or-set_same v.holds c false false near in
    let left-else : (l : ℕ) → l ≢ c → holds left l ≡ holds v l =
    λ l n. get_or-set_other v.holds c l false false n in
    let left-not : (l : ℕ) → holds left l ≡ true
    → l ≢ c = λ l h e. false≢true (sym lost ∙ (ap (holds left) (sym e) ∙ h)) in
    let left-has : (l : ℕ) → holds left l ≡ true
    → holds v l ≡ true = λ l h. sym (left-else l (left-not l h)) ∙ h in
    let blank : List Bool = replicate (length v.holds) false in
    let right-is : (l : ℕ) → holds right l ≡ true
    → l ≡ c = λ l h. dite (ℕ_discrete l c) (λ e. e)
    (λ n. absurd (false≢true (sym (get_or-set_other blank c l true false n
    ∙ replicate-default (length v.holds) l false) ∙ h))) in
    let right-here : holds right c ≡ true = get_or-set_same blank c true false
    (omega (arith, length-replicate (length v.holds) false)) in
    let right-has : (l : ℕ) → holds right l ≡ true
    → holds v l ≡ true = λ l h. ap (holds v) (right-is l h) ∙ has in
    let fits-left : Fits run s.words o.log owner id left =
    to_rest run s.words o.log owner id left (record {
      same_run = f.same_run;
      held_long = length-set v.holds c false ∙ f.held_long;
      tickets_long = f.tickets_long;
      seen_long = f.seen_long;
      phase = rest;
      written = unwritten f rest;
    }) (λ l h. moved-else o.owner c k l (left-not l h)
    ∙ f.owns l (left-has l h)) (λ l h. moves left (rests f rest l (left-has l h)) refl
    (λ e at. refl)) f.known f.known_drawn f.no_clash in
    let fits-right : Fits run s.words o.log owner k right =
    to_rest run s.words o.log owner k right (record {
      same_run = f.same_run;
      held_long = length-set blank c true ∙ (length-replicate (length v.holds) false ∙ f.held_long);
      tickets_long = f.tickets_long;
      seen_long = f.seen_long;
      phase = rest;
      written = unwritten f rest;
    }) (λ l h. moved-here o.owner c k l (right-is l h))
    (λ l h. moves right (rests f rest l (right-has l h)) refl
    (λ e at. refl)) f.known f.known_drawn f.no_clash in record {
      log = o.log;
      owner = owner;
      sound = o.sound;
      wide = o.wide;
      next_ticket = o.next_ticket;
      legal = o.legal;
      in_turn = o.in_turn;
      consistent = o.consistent;
      behind = o.behind;
      held = λ l h. let t = o.held l h in dite (ℕ_discrete l c)
          (λ e. (
            right,
            subst (λ (j : ℕ). get_elem? (vs ++ right ∷ []) j ≡ some right)
                (sym (moved-here o.owner c k l e)) (at_last vs right k long),
            live,
            ap (holds right) e
                ∙ right-here,
          ))
          (λ n. let same = moved-else o.owner c k l n in dite (ℕ_discrete (o.owner l) id)
          (λ e. let v-is : v ≡ t.0 = same_at s.views id v t.0 me
          (subst (λ j. get_elem? s.views j ≡ some t.0) e t.1) in (
            left,
            at_longer vs (right ∷ []) (owner l) left (subst (λ (j : ℕ). get_elem? vs j ≡ some left)
                (sym (same ∙ e)) (set_there s.views id v left me)),
            live,
            left-else l n ∙ (ap (λ (x : View). holds x l) v-is ∙ t.3),
          ))
          (λ ne. (
            t.0,
            at_longer vs (right ∷ []) (owner l) t.0
                (subst (λ (j : ℕ). get_elem? vs j ≡ some t.0) (sym same)
                (set_else s.views id (o.owner l) left ne ∙ t.1)),
            t.2,
            t.3,
          )));
      views = λ j u at lives. ⊎_elim
          (λ old. ⊎_elim
          (λ t. subst (λ i. Fits run s.words o.log owner i u) (sym t.0)
          (subst (λ x. Fits run s.words o.log owner id x) t.1 fits-left))
          (λ t. let g = o.views j u t.1 lives in owned owner g
          (λ l h. moved-else o.owner c k l (λ e. disjoint_holdings f g t.0 l c has h (sym e))))
          (at_set s.views id j left u old))
          (λ t. subst (λ i. Fits run s.words o.log owner i u) (sym (t.0 ∙ long))
          (subst (λ x. Fits run s.words o.log owner k x) t.1 fits-right))
          (at_end vs right u j at);
    }

-- what a pass has that took in another
pub both-holds : (v w : View) (l : ℕ) → length v.holds ≡ v.run.nodes → length w.holds ≡ v.run.nodes
    → holds (taken_in v w) l ≡ (holds v l || holds w l)
both-holds v w l p q = let n : ℕ = v.run.nodes in dite (dec_lt l n)
    (λ h. get-listed (λ x. holds v x || holds w x) n l false h)
    (λ h. get-beyond (taken_in v w).holds l false
    (omega (arith, length-listed (λ x. holds v x || holds w x) n))
    ∙ sym (ap (λ b. b || holds w l) (get-beyond v.holds l false (omega arith))
    ∙ get-beyond w.holds l false (omega arith)))

pub both-clash : (v w : View) (l : ℕ) → length v.holds ≡ v.run.nodes
    → get_or (taken_in v w).clash l false ≡ (holds v l && holds w l)
both-clash v w l p = let n : ℕ = v.run.nodes in dite (dec_lt l n)
    (λ h. get-listed (λ x. holds v x && holds w x) n l false h)
    (λ h. get-beyond (taken_in v w).clash l false
    (omega (arith, length-listed (λ x. holds v x && holds w x) n))
    ∙ sym (ap (λ b. b && holds w l) (get-beyond v.holds l false (omega arith))
    ∙ false-and (holds w l)))

pub both-tickets : (v w : View) (e : ℕ) → e < events v.run
    → tickets (taken_in v w) e ≡ cond (holds w (node_of v.run e)) (tickets w e) (tickets v e)
both-tickets v w e h = get-listed (λ x. cond (holds w (node_of v.run x)) (tickets w x)
    (tickets v x)) (events v.run) e [] h

pub both-seen : (v w : View) (l : ℕ) → l < v.run.nodes
    → seen (taken_in v w) l ≡ max (seen v l) (seen w l)
both-seen v w l h = get-listed (λ x. max (seen v x) (seen w x)) v.run.nodes l 0 h

-- the owners after the seat k took in what w holds
abbrev taken : (ℕ → ℕ) → View → ℕ → ℕ → ℕ
taken owner w k l = cond (holds w l) k (owner l)

pub gathers : (run : Run) (id other : ℕ) (v w : View) → v.live ≡ true → w.live ≡ true → v.phase ≡ 0
    → w.phase ≡ 0 → Joins (Lawful run) id v other w (taken_in v w) spent
gathers run id other v w live live' rest rest' s o me apart-from him =
    let him' : get_elem? s.views other ≡ some w =
    sym (set_else s.views id other (taken_in v w) apart-from) ∙ him in
    let f = o.views id v me live in let g = o.views other w him' live' in let u : View = taken_in v w in
    let owner : ℕ → ℕ = taken o.owner w id in
    let vs : List View = set s.views id u in
    let nodes-is : v.run.nodes ≡ run.nodes = ap (λ (r : Run). r.nodes) f.same_run in
    let long-v : length v.holds ≡ v.run.nodes = f.held_long ∙ sym nodes-is in
    let long-w : length w.holds ≡ v.run.nodes = g.held_long ∙ sym nodes-is in
    let has : (l : ℕ) → holds u l ≡ (holds v l || holds w l) =
    λ l. both-holds v w l long-v long-w in
    let sees : (l : ℕ) → l < run.nodes → seen u l ≡ max (seen v l) (seen w l) =
    λ l h. both-seen v w l (omega arith) in
    let case : (P : Type 0) (l : ℕ) → (holds w l ≡ true → P) → (holds w l ≡ false → P)
    → P = λ P l set clear. by_bool P (holds w l) set clear in
    let tick : (l e : ℕ) → node_of run e ≡ l → l < run.nodes
    → tickets u e ≡ cond (holds w l) (tickets w e) (tickets v e) = λ l e is h.
    let near : e < events v.run = subst (λ (r : Run). e < events r) (sym f.same_run)
    (event_below run e o.sound.among (omega arith)) in
    let at : node_of v.run e ≡ l = ap (λ (r : Run). node_of r e) f.same_run ∙ is in
    both-tickets v w e near ∙ ap (λ (x : ℕ). cond (holds w x) (tickets w e) (tickets v e)) at in
    let yes-owner : (l : ℕ) → holds w l ≡ true
    → owner l ≡ id = λ l h. ap (λ b. cond b id (o.owner l)) h in
    let no-owner : (l : ℕ) → holds w l ≡ false
    → owner l ≡ o.owner l = λ l h. ap (λ b. cond b id (o.owner l)) h in
    let no-has : (l : ℕ) → holds w l ≡ false → holds u l ≡ true
    → holds v l ≡ true = λ l n h. sym (or-false (holds v l))
    ∙ (ap (λ b. holds v l || b) (sym n) ∙ (sym (has l) ∙ h)) in
    let here : get_elem? (set vs other spent) id ≡ some u =
    set_else vs other id spent (λ e. apart-from (sym e)) ∙ set_there s.views id v u me in
    let Held : ℕ → Type 0 = λ l. (x : View) × (get_elem? (set vs other spent) (owner l) ≡ some x)
    × (x.live ≡ true) × (holds x l ≡ true) in
    let mine : Fits run s.words o.log owner id u = to_rest run s.words o.log owner id u (record {
      same_run = f.same_run;
      held_long = length-listed (λ l. holds v l || holds w l) v.run.nodes ∙ nodes-is;
      tickets_long = length-listed (λ e. cond (holds w (node_of v.run e)) (tickets w e)
          (tickets v e)) (events v.run) ∙ ap events f.same_run;
      seen_long = length-listed (λ l. max (seen v l) (seen w l)) v.run.nodes ∙ nodes-is;
      phase = rest;
      written = unwritten f rest;
    })
    (λ l h. case (owner l ≡ id) l (λ y. yes-owner l y) (λ n. no-owner l n
    ∙ f.owns l (no-has l n h)))
    (λ l h. case (Rests run s.words o.log u l) l
    (λ y. let a = inside g l y in moves u (rests g rest' l y)
    (omega (arith, sees l a, f.known l a, g.counted l y)) (λ e is. tick l e is a
    ∙ ap (λ b. cond b (tickets w e) (tickets v e)) y))
    (λ n. let h' = no-has l n h in let a = inside f l h' in
    moves u (rests f rest l h') (omega (arith, sees l a, g.known l a, f.counted l h'))
    (λ e is. tick l e is a ∙ ap (λ b. cond b (tickets w e) (tickets v e)) n)))
    (λ l h. omega (arith, sees l h, f.known l h, g.known l h))
    (omega (arith, f.known_drawn, g.known_drawn))
    (λ l. both-clash v w l long-v ∙ by_bool ((holds v l && holds w l) ≡ false) (holds v l)
    (λ y. by_bool ((holds v l && holds w l) ≡ false) (holds w l)
    (λ z. absurd (apart-from (sym (g.owns l z) ∙ f.owns l y))) (λ z. ap (λ b. holds v l && b) z
    ∙ and-false (holds v l)))
    (λ y. ap (λ b. b && holds w l) y ∙ false-and (holds w l))) in record {
      log = o.log;
      owner = owner;
      sound = o.sound;
      wide = o.wide;
      next_ticket = o.next_ticket;
      legal = o.legal;
      in_turn = o.in_turn;
      consistent = o.consistent;
      behind = o.behind;
      held = λ l h. let t = o.held l h in case (Held l) l
          (λ y. (
            u,
            subst (λ (j : ℕ). get_elem? (set vs other spent) j ≡ some u)
                (sym (yes-owner l y)) here,
            live,
            has l ∙ (ap (λ b. holds v l || b) y
                ∙ or-true (holds v l)),
          ))
          (λ n. let same = no-owner l n in dite (ℕ_discrete (o.owner l) id)
          (λ e. let v-is : v ≡ t.0 = same_at s.views id v t.0 me
          (subst (λ j. get_elem? s.views j ≡ some t.0) e t.1) in (
            u,
            subst (λ (j : ℕ). get_elem? (set vs other spent) j ≡ some u) (sym (same ∙ e)) here,
            live,
            has l ∙ (ap (λ b. b || holds w l) (ap (λ (x : View). holds x l) v-is ∙ t.3)
                ∙ true-or (holds w l)),
          ))
          (λ ne. let far : o.owner l ≢ other = λ e. false≢true (sym n
          ∙ (ap (λ (x : View). holds x l) (same_at s.views other w t.0 him'
          (subst (λ j. get_elem? s.views j ≡ some t.0) e t.1)) ∙ t.3)) in (
            t.0,
            subst (λ (j : ℕ). get_elem? (set vs other spent) j ≡ some t.0) (sym same)
                (set_else vs other (o.owner l) spent far ∙ (set_else s.views id (o.owner l) u ne
                ∙ t.1)),
            t.2,
            t.3,
          )));
      views = λ j x at lives. ⊎_elim
          (λ t. absurd (false≢true (ap (λ (y : View). y.live) t.1 ∙ lives)))
          (λ t. ⊎_elim
          (λ r. subst (λ i. Fits run s.words o.log owner i x) (sym r.0)
          (subst (λ y. Fits run s.words o.log owner id y) r.1 mine))
          (λ r. let q = o.views j x r.1 lives in owned owner q
          (λ l h. no-owner l (by_bool (holds w l ≡ false) (holds w l)
          (λ y. absurd (t.0 (sym (q.owns l h) ∙ g.owns l y))) (λ n. n))))
          (at_set s.views id j u x t.1))
          (at_set vs other j spent x at);
    }

-- at the end, where one pass at rest holds all nodes
pub ends : (run : Run) (s : St) (o : Lawful run s) (id : ℕ) (v : View)
    → get_elem? s.views id ≡ some v → v.live ≡ true → v.phase ≡ 0
    → ((l : ℕ) → l < run.nodes → holds v l ≡ true) → Recorded run (tickets v) (get_or s.words 0 0)
ends run s o id v me live rest all = let f = o.views id v me live in record {
  log = o.log;
  long = o.next_ticket;
  legal = o.legal;
  in_turn = o.in_turn;
  all = λ e h. sym (quiet f rest e (all (node_of run e) h));
}
