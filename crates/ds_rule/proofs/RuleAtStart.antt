-- The rule at the start: no ticket is drawn, and one pass holds all nodes.
use Rattle.std.proofs.Common.{◌≡◌, ℕ, ◌+◌, ◌<◌, ◌≤◌}
use Rattle.std.proofs.Common.{true, false}
use Rattle.std.proofs.Common.{List, [], length, get_or, sym, refl, ap, ◌∙◌, subst}
use Rattle.std.proofs.Common.{arith}
use Rattle.std.proofs.Common.{le_refl}
use Rattle.std.proofs.lemmas.List.{get_or-replicate, length-replicate}
use Rattle.atomic_table.specs.Table.{opening}
use Rattle.ds_rule.specs.Run.{Run, events, node_of, turns, opened, count}
use Rattle.ds_rule.specs.Sound.{IsSound}
use Rattle.ds_rule.specs.Words.{width, size, place, value}
use Rattle.ds_rule.specs.Rule.{firings_shown, holds, tickets, seen, Fits}
use Rattle.ds_rule.specs.Rule.{Lawful, first_view}
use Rattle.ds_rule.specs.declared.view.View.{View}
use Rattle.ds_rule.proofs.GetElemLemmas.{replicate-default, only_item, held_inside}
use Rattle.ds_rule.proofs.EventLaws.{turns-none}
use Rattle.ds_rule.proofs.EventLaws.{opened-none}
use Rattle.ds_rule.proofs.GraphLaws.{node_there}
use Rattle.ds_rule.proofs.PassAtRest.{Resting, to_rest}

-- the table at the start: no ticket is drawn, and one pass holds all nodes
pub starts : (run : Run) (ws : List ℕ) → IsSound run → length ws ≡ size run
    → ((x : ℕ) → x ≤ run.nodes → get_or ws x 0 ≡ 0)
    → ((l i : ℕ) → l < run.nodes → i < width run l
    → get_or ws (place run l 0 i) 0 ≡ value run l 0 i)
    → Lawful run (opening ws [] (first_view run))
starts run ws sound wide zeros firsts =
    let v : View = first_view run in
    let zero-at : (x : ℕ) → x < run.nodes → firings_shown ws x ≡ 0 = λ x h. zeros (x + 1) (omega arith) in
    let none-kept : (e : ℕ) → tickets v e ≡ [] = λ e. replicate-default (events run) e [] in
    let none-seen : (x : ℕ) → seen v x ≡ 0 = λ x. replicate-default {A = ℕ} run.nodes x 0 in
    let within : (x : ℕ) → holds v x ≡ true → x < run.nodes = λ x h. held_inside run.nodes x h in
    let counts : (e : ℕ) → node_of run e < run.nodes
    → count run (firings_shown ws) e ≡ 0 = λ e h. ap (turns run e) (zero-at (node_of run e) h)
    ∙ turns-none run e in
    let rest : Resting run v = record {
      same_run = refl;
      held_long = length-replicate run.nodes true;
      tickets_long = length-replicate (events run) [];
      seen_long = length-replicate run.nodes 0;
      phase = refl;
      written = refl;
    } in
    let mine : Fits run ws [] (λ _. 0) 0 v = to_rest run ws [] (λ _. 0) 0 v rest (λ x h. refl)
    (λ x h. record {
      counted = zero-at x (within x h) ∙ sym (none-seen x);
      logged = sym (none-seen x);
      kept = λ e is. sym (none-kept e);
      values = λ k i near a b. let z : opened run x (seen v x) ≡ 0 = ap (opened run x) (none-seen x)
          ∙ opened-none run x in let k-is : 0 ≡ k = omega arith in
          subst (λ (y : ℕ). get_or ws (place run x y i) 0 ≡ value run x y i) k-is
          (firsts x i (within x h) near);
    })
    (λ x h. omega (arith, zero-at x h, none-seen x)) (le_refl 0) (λ x. refl) in record {
      log = [];
      owner = λ _. 0;
      sound = sound;
      wide = wide;
      next_ticket = zeros 0 (omega arith);
      legal = tt;
      in_turn = tt;
      consistent = record {
        agrees = λ k d near. omega (
          arith,
          counts (get_or run.arcs k d).target (sound.named k d near).1,
        );
        within = λ e inside. omega (arith, counts e (node_there run e sound.among inside));
      };
      behind = λ x h. omega (arith, zero-at x h);
      held = λ x h. (v, refl, refl, get_or-replicate run.nodes x true false h);
      views = λ j u at lives. let t = only_item v u j at in
          subst (λ k. Fits run ws [] (λ _. 0) k u) (sym t.0)
          (subst (λ y. Fits run ws [] (λ _. 0) 0 y) t.1 mine);
    }
