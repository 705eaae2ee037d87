-- The rule after a step of one seat: what it owes for its own view, and for the others.
use Rattle.std.proofs.Common.{◌≡◌, ℕ, ◌<◌, ◌≤◌, ◌≢◌}
use Rattle.std.proofs.Common.{true}
use Rattle.std.proofs.Common.{List, length, get_or, set, sym, refl, ap, ◌∙◌, subst}
use Rattle.std.proofs.Common.{⊎_elim}
use Rattle.std.proofs.Common.{le_trans}
use mathlib.Core.Logic.{dite}
use mathlib.Core.Option.{some}
use native.Mathlib.Decide.{ℕ_discrete}
use lib.ListN.{get_elem?}
use lib.Seq.{set-get_or}
use Rattle.atomic_table.proofs.Lists.{at_set, set_else}
use Rattle.ds_rule.specs.Run.{Run, node_of}
use Rattle.ds_rule.specs.Run.{IsConsistentInRun}
use Rattle.ds_rule.specs.Words.{width, place}
use Rattle.ds_rule.specs.Log.{tickets_in_log, node_count_in_log, IsLegalList, InTurn}
use Rattle.ds_rule.specs.Rule.{firings_shown, holds, Fits}
use Rattle.ds_rule.specs.Rule.{Lawful}
use Rattle.ds_rule.specs.declared.view.View.{View}
use Rattle.ds_rule.proofs.GetElemLemmas.{same_at, set_there}
use Rattle.ds_rule.proofs.PassAtRest.{St}

-- each node is held, after the seat id goes from v to w, which holds what v held
abbrev Held : List View → (ℕ → ℕ) → ℕ → Type 0
Held vs owner l = (u : View) × (get_elem? vs (owner l) ≡ some u) × (u.live ≡ true)
    × (holds u l ≡ true)

held_set : (vs : List View) (owner : ℕ → ℕ) (id l : ℕ) (v w : View) → get_elem? vs id ≡ some v
    → w.live ≡ true → holds w l ≡ holds v l → Held vs owner l → Held (set vs id w) owner l
held_set vs owner id l v w me live same (u, at, lives, has) = dite (ℕ_discrete (owner l) id)
    (λ e. let at' : get_elem? vs id ≡ some u = subst (λ k. get_elem? vs k ≡ some u) e at in
    let t : v ≡ u = same_at vs id v u me at' in (
      w,
      subst (λ k. get_elem? (set vs id w) k ≡ some w) (sym e) (set_there vs id v w me),
      live,
      same
          ∙ subst (λ x. holds x l ≡ true) (sym t) has,
    ))
    (λ n. (u, set_else vs id (owner l) w n ∙ at, lives, has))

-- a seat that makes no step, beside words that rose
pub later : {run : Run} {ws log : List ℕ} {owner : ℕ → ℕ} {j : ℕ} {u : View} (ws' log' : List ℕ)
    → Fits run ws log owner j u
    → ((l : ℕ) → holds u l ≡ true → firings_shown ws' l ≡ firings_shown ws l)
    → ((l : ℕ) → holds u l ≡ true → node_count_in_log run l log' ≡ node_count_in_log run l log)
    → ((e : ℕ) → holds u (node_of run e) ≡ true → tickets_in_log e log' ≡ tickets_in_log e log)
    → ((l : ℕ) → l < run.nodes → firings_shown ws l ≤ firings_shown ws' l) → length log ≤ length log'
    → ((l k i : ℕ) → holds u l ≡ true → i < width run l
    → get_or ws' (place run l k i) 0 ≡ get_or ws (place run l k i) 0)
    → Fits run ws' log' owner j u
later ws' log' f words nodes logs up long vals = record {
  same_run = f.same_run;
  held_long = f.held_long;
  tickets_long = f.tickets_long;
  seen_long = f.seen_long;
  owns = f.owns;
  counted = λ l h. words l h ∙ f.counted l h;
  logged = λ l h. nodes l h ∙ f.logged l h;
  known = λ l h. le_trans (f.known l h) (up l h);
  kept = λ e h. logs e h ∙ f.kept e h;
  known_drawn = le_trans f.known_drawn long;
  values = λ l k i h near a b. vals l k i h near ∙ f.values l k i h near a b;
  writes = f.writes;
  flies = f.flies;
  no_clash = f.no_clash;
}

-- what a step of the seat id owes: the rule at the new words, log and view
pub renewed : (run : Run) (s : St) (o : Lawful run s) (id : ℕ) (v w : View) (ws log : List ℕ)
    → get_elem? s.views id ≡ some v → w.live ≡ true
    → ((l : ℕ) → holds w l ≡ holds v l) → length ws ≡ length s.words → get_or ws 0 0 ≡ length log
    → IsLegalList run log → InTurn run log
    → IsConsistentInRun run (firings_shown ws) → ((l : ℕ) → l < run.nodes → firings_shown ws l ≤ node_count_in_log run l log)
    → Fits run ws log o.owner id w
    → ((j : ℕ) (u : View) → j ≢ id → Fits run s.words o.log o.owner j u
    → Fits run ws log o.owner j u)
    → Lawful run (record { words = ws; homes = s.homes; views = set s.views id w })
renewed run s o id v w ws log me live same long first legal in_turn consistent behind mine others =
    record {
      log = log;
      owner = o.owner;
      sound = o.sound;
      wide = long ∙ o.wide;
      next_ticket = first;
      legal = legal;
      in_turn = in_turn;
      consistent = consistent;
      behind = behind;
      held = λ l h. held_set s.views o.owner id l v w me live (same l) (o.held l h);
      views = λ j u at lives. ⊎_elim (λ t. subst (λ k. Fits run ws log o.owner k u) (sym t.0)
          (subst (λ x. Fits run ws log o.owner id x) t.1 mine))
          (λ t. others j u t.0 (o.views j u t.1 lives)) (at_set s.views id j w u at);
    }

-- a step that leaves the words as they were
pub unmoved : (run : Run) (s : St) (o : Lawful run s) (i id : ℕ) (v w : View)
    → get_elem? s.views id ≡ some v → w.live ≡ true → ((l : ℕ) → holds w l ≡ holds v l)
    → Fits run s.words o.log o.owner id w → Lawful run
    (record {
      words = set s.words i (get_or s.words i 0);
      homes = s.homes;
      views = set s.views id w;
    })
unmoved run s o i id v w me live same mine =
    subst (λ (ws : List ℕ). Lawful run (record {
      words = ws;
      homes = s.homes;
      views = set s.views id w;
    })) (sym (set-get_or s.words i 0))
    (renewed run s o id v w s.words o.log me live same refl o.next_ticket o.legal o.in_turn
    o.consistent o.behind mine (λ j u n f. f))

-- two seats hold no node together
pub disjoint_holdings : {run : Run} {ws log : List ℕ} {owner : ℕ → ℕ} {id j : ℕ} {v u : View}
    → Fits run ws log owner id v → Fits run ws log owner j u → j ≢ id
    → (l x : ℕ) → holds v x ≡ true → holds u l ≡ true → x ≢ l
disjoint_holdings {owner = owner} f g other l x has has' e =
    other (sym (g.owns l has') ∙ (ap owner (sym e) ∙ f.owns x has))
