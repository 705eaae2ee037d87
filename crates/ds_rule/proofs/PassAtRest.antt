-- What a pass at rest says of the words, the log and its view, and a view that says it.
use Rattle.std.proofs.Common.{◌≡◌, ℕ, ◌+◌, ◌<◌, ◌≤◌, eqb, cond}
use Rattle.std.proofs.Common.{true, false}
use Rattle.std.proofs.Common.{List, [], ◌∷◌, ◌++◌, length, get_or, sym, refl, ap, ◌∙◌}
use Rattle.std.proofs.Common.{arith}
use Rattle.std.proofs.Common.{eq-eqb, ne_eqb, ltb, lt-ltb, le-ltb}
use mathlib.Core.Logic.{dite}
use native.Mathlib.Decide.{ℕ_discrete, dec_lt}
use Rattle.std.proofs.lemmas.List.{append-nil}
use Rattle.atomic_table.specs.Table.{State}
use Rattle.ds_rule.specs.Run.{Run, events, node_of, opened}
use Rattle.ds_rule.specs.Words.{width, place, value}
use Rattle.ds_rule.specs.Log.{tickets_in_log, node_count_in_log}
use Rattle.ds_rule.specs.Rule.{firings_shown, holds, tickets, seen, event, pending, ahead, version, Fits}
use Rattle.ds_rule.specs.declared.view.View.{View}
use Rattle.ds_rule.proofs.GetElemLemmas.{has_below}

abbrev pub St : Type 0
St = State ℕ View

pub version-old : (run : Run) (v : View) (l i : ℕ) → (v.node ≡ l → i < v.written → ⊥)
    → version run v l i ≡ opened run l (seen v l)
version-old run v l i clash = let n : ℕ = opened run l (seen v l) in dite (ℕ_discrete v.node l)
    (λ a. dite (dec_lt i v.written) (λ b. absurd (clash a b))
    (λ b. ap (λ x. n + cond (eqb v.node l) (cond x 1 0) 0) (le-ltb i v.written (omega arith))
    ∙ (ap (λ x. n + cond x 0 0) (eq-eqb v.node l a) ∙ omega arith)))
    (λ a. ap (λ x. n + cond x (cond (ltb i v.written) 1 0) 0) (ne_eqb v.node l a) ∙ omega arith)

pub version-new : (run : Run) (v : View) (l i : ℕ) → v.node ≡ l → i < v.written
    → version run v l i ≡ opened run l (seen v l) + 1
version-new run v l i a b = let n : ℕ = opened run l (seen v l) in
    ap (λ x. n + cond x (cond (ltb i v.written) 1 0) 0) (eq-eqb v.node l a)
    ∙ ap (λ x. n + cond x 1 0) (lt-ltb i v.written b)

-- two views beside the same words
pub version-same : (run : Run) (v w : View) (l i : ℕ) → v.written ≡ 0 → w.written ≡ 0
    → seen w l ≡ seen v l → version run w l i ≡ version run v l i
version-same run v w l i a b same = version-old run w l i (λ _ h. omega arith)
    ∙ (ap (opened run l) same ∙ sym (version-old run v l i (λ _ h. omega arith)))

pub pending-calm : (run : Run) (v : View) (e : ℕ) → eqb v.phase 2 ≡ false → pending run v e ≡ []
pending-calm run v e calm = ap (λ b. cond b (cond (eqb (event run v) e) (v.ticket ∷ []) []) []) calm

pub ahead-calm : (v : View) (l : ℕ) → eqb v.phase 2 ≡ false → ahead v l ≡ 0
ahead-calm v l calm = ap (λ b. cond b (cond (eqb v.node l) 1 0) 0) calm

pub inside : {run : Run} {ws log : List ℕ} {owner : ℕ → ℕ} {id : ℕ} {v : View}
    → Fits run ws log owner id v → (l : ℕ) → holds v l ≡ true → l < run.nodes
inside {v = v} f l h = omega (arith, has_below v.holds l h, f.held_long)

-- a pass that holds a node and is at rest there: the words, the log and the view agree
pub record Rests (run : Run) (ws log : List ℕ) (v : View) (l : ℕ) : Type 0 where
  pub counted : firings_shown ws l ≡ seen v l
  pub logged : node_count_in_log run l log ≡ seen v l
  pub kept : (e : ℕ) → node_of run e ≡ l → tickets_in_log e log ≡ tickets v e
  pub values : (k i : ℕ) → i < width run l → k ≤ opened run l (seen v l)
      → opened run l (seen v l) ≤ k + run.slack
      → get_or ws (place run l k i) 0 ≡ value run l k i

-- at rest no word is written
pub unwritten : {run : Run} {ws log : List ℕ} {owner : ℕ → ℕ} {id : ℕ} {v : View}
    → Fits run ws log owner id v → v.phase ≡ 0 → v.written ≡ 0
unwritten {v = v} f rest = dite (dec_lt 0 v.written) (λ h. let t = f.writes h in
    absurd (omega arith)) (λ h. omega arith)

pub rests : {run : Run} {ws log : List ℕ} {owner : ℕ → ℕ} {id : ℕ} {v : View}
    → Fits run ws log owner id v → v.phase ≡ 0 → (l : ℕ) → holds v l ≡ true → Rests run ws log v l
rests {run = run} {v = v} f rest l h = let calm : eqb v.phase 2 ≡ false =
    ap (λ (y : ℕ). eqb y 2) rest in
    let old : (i : ℕ) → version run v l i ≡ opened run l (seen v l) =
    λ i. version-old run v l i (λ _ t. omega (arith, unwritten f rest)) in record {
      counted = f.counted l h;
      logged = omega (arith, f.logged l h, ahead-calm v l calm);
      kept = λ e is. f.kept e (ap (holds v) is ∙ h)
          ∙ (ap (λ p. tickets v e ++ p) (pending-calm run v e calm) ∙ append-nil (tickets v e));
      values = λ k i near a b. f.values l k i h near (omega (arith, old i)) (omega (arith, old i));
    }

-- the same in another view
pub moves : {run : Run} {ws log : List ℕ} {v : View} {l : ℕ} (w : View) → Rests run ws log v l
    → seen w l ≡ seen v l
    → ((e : ℕ) → node_of run e ≡ l → tickets w e ≡ tickets v e) → Rests run ws log w l
moves {run = run} {l = l} w r same ticks = record {
  counted = r.counted ∙ sym same;
  logged = r.logged ∙ sym same;
  kept = λ e is. r.kept e is ∙ sym (ticks e is);
  values = λ k i near a b. r.values k i near (omega (arith, ap (opened run l) same))
      (omega (arith, ap (opened run l) same));
}

pub record Resting (run : Run) (w : View) : Type 0 where
  pub same_run : w.run ≡ run
  pub held_long : length w.holds ≡ run.nodes
  pub tickets_long : length w.tickets ≡ events run
  pub seen_long : length w.seen ≡ run.nodes
  pub phase : w.phase ≡ 0
  pub written : w.written ≡ 0

pub to_rest : (run : Run) (ws log : List ℕ) (owner : ℕ → ℕ) (id : ℕ) (w : View) → Resting run w
    → ((l : ℕ) → holds w l ≡ true → owner l ≡ id)
    → ((l : ℕ) → holds w l ≡ true → Rests run ws log w l)
    → ((l : ℕ) → l < run.nodes → seen w l ≤ firings_shown ws l) → w.drawn ≤ length log
    → ((l : ℕ) → get_or w.clash l false ≡ false) → Fits run ws log owner id w
to_rest run ws log owner id w q owns r known drawn clear = let calm : eqb w.phase 2 ≡ false =
    ap (λ (y : ℕ). eqb y 2) q.phase in
    let old : (l i : ℕ) → version run w l i ≡ opened run l (seen w l) =
    λ l i. version-old run w l i (λ _ t. omega (arith, q.written)) in record {
      same_run = q.same_run;
      held_long = q.held_long;
      tickets_long = q.tickets_long;
      seen_long = q.seen_long;
      owns = owns;
      counted = λ l h. (r l h).counted;
      logged = λ l h. omega (arith, (r l h).logged, ahead-calm w l calm);
      known = known;
      kept = λ e h. (r (node_of run e) h).kept e refl
          ∙ (sym (append-nil (tickets w e)) ∙ ap (λ p. tickets w e
          ++ p) (sym (pending-calm run w e calm)));
      known_drawn = drawn;
      values = λ l k i h near a b. (r l h).values k i near (omega (arith, old l i))
          (omega (arith, old l i));
      writes = λ up. absurd (omega (arith, q.written));
      flies = λ up. absurd (omega (arith, q.phase));
      no_clash = clear;
    }
