-- The draw of a ticket keeps the rule: the event is enabled at the counts of the log.
use Rattle.std.proofs.Common.{◌≡◌, ℕ, zero, suc, ◌+◌, ◌-◌, ◌*◌, ◌%◌, ◌^◌, ◌<◌, ◌≤◌, ◌≢◌, eqb, cond}
use Rattle.std.proofs.Common.{Bool, true, false}
use Rattle.std.proofs.Common.{List, [], ◌∷◌, ◌++◌, length, get_or, set, sym, refl, ap, ◌∙◌, subst}
use Rattle.std.proofs.Common.{⊎_elim, arith}
use Rattle.std.proofs.Common.{le_trans, le_refl, le_of_eq, length-set, get_or-set_other}
use Rattle.std.proofs.Common.{get_or-set_same, replicate}
use Rattle.std.proofs.Common.{eq-eqb, ne_eqb, ltb, lt-ltb, le-ltb, length-append}
use mathlib.Core.Logic.{dite}
use mathlib.Core.Option.{none}
use native.Mathlib.Decide.{ℕ_discrete}
use Rattle.std.proofs.lemmas.List.{append-nil}
use Rattle.atomic_table.specs.Table.{step, keeps}
use Rattle.atomic_table.specs.Table.{Allows}
use Rattle.ds_marked.specs.declared.marked.Arc.{Arc}
use Rattle.ds_rule.specs.Run.{Run, graph, node_of, next, turns, count}
use Rattle.ds_rule.specs.Words.{place}
use Rattle.ds_rule.specs.Log.{count_in_log, tickets_in_log, node_count_in_log, IsLegalList, InTurn}
use Rattle.ds_rule.specs.Rule.{firings_shown, tickets, seen, event, Fits}
use Rattle.ds_rule.specs.Rule.{Lawful}
use Rattle.ds_rule.specs.Plays.{Sat, after_draw}
use Rattle.ds_rule.specs.Plays.{drew}
use Rattle.ds_rule.specs.declared.view.View.{View}
use Rattle.ds_rule.proofs.EventLaws.{node-next, turns_up}
use Rattle.ds_rule.proofs.GraphLaws.{enabled_at, consistent_same}
use Rattle.ds_rule.proofs.PlaceLaws.{place_behind, counts_inside}
use Rattle.ds_rule.proofs.LogCounts.{node_count_in_log-here, node_count_in_log-else, tickets_in_log-here, tickets_in_log-else, count_in_log-turns}
use Rattle.ds_rule.proofs.LogCounts.{log_most}
use Rattle.ds_rule.proofs.PassAtRest.{pending-calm, ahead-calm}
use Rattle.ds_rule.proofs.StepKeepsRule.{later, renewed, disjoint_holdings}

pub draws : (run : Run) (n id : ℕ) (m : Sat) → m.0.live ≡ true → m.0.phase ≡ 1
    → Allows (Lawful run) n id m 0 (λ y. (y + 1) % 2 ^ 64) (drew (step n 0 1 0 none) m)
draws run n id m live phase s o wide me _ =
    let v : View = m.0 in let f = o.views id v me live in let r : ℕ = get_or s.words 0 0 in
    let w : View = after_draw v r in
    let up = f.flies (omega arith) in let l : ℕ = v.node in let E : ℕ = event run v in
    let of-l : node_of run E ≡ l = node-next run l (seen v l) in
    let new : ℕ = (r + 1) % 2 ^ 64 in let ws : List ℕ = set s.words 0 new in
    let log : List ℕ = E ∷ o.log in
    let calm : eqb v.phase 2 ≡ false = ap (λ (y : ℕ). eqb y 2) phase in
    let same : (x : ℕ) → firings_shown ws x ≡ firings_shown s.words x =
    λ x. get_or-set_other s.words 0 (x + 1) new 0 (λ e. omega arith) in
    let untouched : (x j y : ℕ) → get_or ws (place run x j y) 0 ≡ get_or s.words
    (place run x j y) 0 =
    λ x j y. get_or-set_other s.words 0 (place run x j y) new 0
    (λ e. omega (arith, place_behind run x j y)) in
    let many : node_count_in_log run l o.log ≡ seen v l =
    omega (arith, f.logged l up.0, ahead-calm v l calm) in
    let many' : node_count_in_log run (node_of run E) o.log ≡ seen v (node_of run E) =
    ap (λ (x : ℕ). node_count_in_log run x o.log) of-l ∙ (many ∙ ap (seen v) (sym of-l)) in
    let stood : count_in_log E o.log ≡ count run (seen v) E = count_in_log-turns run E o.log o.in_turn
    ∙ ap (turns run E) many' in
    let legal : IsLegalList run log = (
      o.legal,
      enabled_at (graph run) run.limit (count run (seen v)) (λ x. count_in_log x o.log) E stood
          (λ k d near into. let a : Arc = get_or run.arcs k d in let u : ℕ = node_of run a.source in
          let inside = (o.sound.named k d near).0 in
          omega (
            arith,
            count_in_log-turns run a.source o.log o.in_turn,
            turns_up run a.source (seen v u) (node_count_in_log run u o.log)
                (le_trans (f.known u inside) (o.behind u inside)),
          ))
          up.2,
    ) in
    let in_turn : InTurn run log = (
      o.in_turn,
      omega (arith, of-l, up.1),
      ap (λ (x : ℕ). next run x (seen v x)) (sym of-l)
          ∙ ap (next run (node_of run E)) (sym many'),
    ) in
    let most = log_most run log legal in_turn in
    let rises : (x : ℕ) → node_count_in_log run x o.log ≤ node_count_in_log run x log =
    λ x. Rattle.std.proofs.Common.le-add_right _ _ in
    let mine : Fits run ws log o.owner id w = record {
      same_run = f.same_run;
      held_long = f.held_long;
      tickets_long = f.tickets_long;
      seen_long = f.seen_long;
      owns = f.owns;
      counted = λ x h. same x ∙ f.counted x h;
      logged = λ x h. dite (ℕ_discrete l x)
          (λ e. omega (
            arith,
            node_count_in_log-here run x E o.log (of-l ∙ e),
            f.logged x h,
            ahead-calm v x calm,
            ap {B = ℕ} (λ b. cond b 1 0) (eq-eqb l x e),
          ))
          (λ e. omega (
            arith,
            node_count_in_log-else run x E o.log (λ t. e (sym of-l ∙ t)),
            f.logged x h,
            ahead-calm v x calm,
            ap {B = ℕ} (λ b. cond b 1 0) (ne_eqb l x e),
          ));
      known = λ x h. subst (λ (y : ℕ). seen v x ≤ y) (sym (same x)) (f.known x h);
      kept = λ e h. let old : tickets_in_log e o.log ≡ tickets v e = f.kept e h
          ∙ (ap (λ p. tickets v e ++ p) (pending-calm run v e calm) ∙ append-nil (tickets v e)) in
          dite (ℕ_discrete E e)
          (λ is. tickets_in_log-here e E o.log is ∙ (ap (λ p. p ++ length o.log ∷ []) old
          ∙ ap (λ b. tickets v e ++ b) (sym (ap (λ b. cond b (r ∷ []) []) (eq-eqb E e is)
          ∙ ap (λ (y : ℕ). y ∷ []) o.next_ticket))))
          (λ no-it. tickets_in_log-else e E o.log no-it ∙ (old
          ∙ sym (ap (λ b. tickets v e ++ cond b (r ∷ []) []) (ne_eqb E e no-it)
          ∙ append-nil (tickets v e))));
      known_drawn = omega (arith, o.next_ticket);
      values = λ x j y h near a b. untouched x j y ∙ f.values x j y h near a b;
      writes = λ t. (omega arith, (f.writes t).1);
      flies = λ _. up;
      no_clash = f.no_clash;
    } in (
      w,
      keeps,
      tt,
      renewed run s o id v w ws log me live (λ x. refl) (length-set s.words 0 new)
          (get_or-set_same s.words 0 new 0 (omega (
            arith,
            o.wide,
            counts_inside run 0 (omega arith),
          )) ∙ omega (
            arith,
            o.next_ticket,
            o.sound.narrow,
            most,
          ))
          legal
          in_turn
          (consistent_same run o.sound (count run (firings_shown s.words)) (count run (firings_shown ws))
          (λ e h. ap (turns run e) (same (node_of run e))) o.consistent)
          (λ x h. omega (arith, same x, o.behind x h, rises x))
          mine
          (λ j u other g. later ws log g (λ x h. same x)
          (λ x h. node_count_in_log-else run x E o.log (λ t. disjoint_holdings f g other x l up.0 h (sym of-l ∙ t)))
          (λ e h. tickets_in_log-else e E o.log (λ t. disjoint_holdings f g other (node_of run e) l up.0 h (sym of-l
          ∙ ap (node_of run) t)))
          (λ x h. le_of_eq (sym (same x))) (omega arith) (λ x k y h near. untouched x k y)),
      (refl, omega (arith, f.known_drawn, o.next_ticket)),
    )
