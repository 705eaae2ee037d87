-- The publication of a count keeps the rule: the counts stay consistent.
use Rattle.std.proofs.Common.{◌≡◌, ℕ, ◌+◌, ◌<◌, ◌≤◌, ◌≢◌, eqb, cond}
use Rattle.std.proofs.Common.{true}
use Rattle.std.proofs.Common.{List, [], ◌∷◌, ◌++◌, length, get_or, set, sym, refl, ap, ◌∙◌, subst}
use Rattle.std.proofs.Common.{arith}
use Rattle.std.proofs.Common.{le_refl, le_of_eq, length-set, get_or-set_other}
use Rattle.std.proofs.Common.{get_or-set_same}
use Rattle.std.proofs.Common.{eq-eqb, ne_eqb}
use mathlib.Core.Logic.{dite}
use mathlib.Core.Option.{none}
use native.Mathlib.Decide.{ℕ_discrete}
use Rattle.std.proofs.lemmas.List.{append-nil}
use Rattle.atomic_table.specs.Table.{step, Act, keeps, Valid, carried_after, stepped}
use Rattle.atomic_table.specs.Table.{Allows}
use Rattle.ds_marked.specs.Graph.{counted}
use Rattle.ds_marked.proofs.CountLemmas.{counted-same, counted-other}
use Rattle.ds_rule.specs.Run.{Run, graph, node_of, turns, opens, opened, count}
use Rattle.ds_rule.specs.Words.{width, place}
use Rattle.ds_rule.specs.Log.{node_count_in_log}
use Rattle.ds_rule.specs.Rule.{firings_shown, tickets, seen, event, pending, ahead, version, Fits}
use Rattle.ds_rule.specs.Rule.{Lawful}
use Rattle.ds_rule.specs.Plays.{Sat, after_publish}
use Rattle.ds_rule.specs.Plays.{published}
use Rattle.ds_rule.specs.declared.view.View.{View}
use Rattle.ds_rule.proofs.GetElemLemmas.{by_bool}
use Rattle.ds_rule.proofs.EventLaws.{node-next, turns-next, turns-other}
use Rattle.ds_rule.proofs.EventLaws.{event_below}
use Rattle.ds_rule.proofs.EventLaws.{opened-opens, opened-else}
use Rattle.ds_rule.proofs.GraphLaws.{consistent_same, consistent_kept, flight_enabled}
use Rattle.ds_rule.proofs.PlaceLaws.{place_behind, counts_inside}
use Rattle.ds_rule.proofs.PassAtRest.{version-old, version-new}
use Rattle.ds_rule.proofs.StepKeepsRule.{later, renewed, disjoint_holdings}

pub publishes : (run : Run) (n id : ℕ) (m : Sat) (i new : ℕ) → i ≡ m.0.node + 1
    → new ≡ seen m.0 m.0.node + 1 → m.0.live ≡ true → m.0.phase ≡ 2
    → (opens run (event run m.0) ≡ true → width run m.0.node ≤ m.0.written)
    → Allows (Lawful run) n id m i (λ _. new) (λ _. published (step n i new 0 none) m new)
publishes run n id m i new at-node more live phase whole s o wide me _ =
    let v : View = m.0 in let f = o.views id v me live in let l : ℕ = v.node in
    let w : View = after_publish v in let log : List ℕ = o.log in
    let P : ℕ → Type 0 = λ j. (x : View) × (a : Act ℕ) × Valid s.homes m.1 a
    × Lawful run (stepped s j new id m.1 x a)
    × published (step n j new 0 none) m new (x, carried_after m.1 a) in
    let ws : List ℕ = set s.words (l + 1) new in let F : ℕ = seen v l in let E : ℕ = event run v in
    let of-l : node_of run E ≡ l = node-next run l F in
    let E-is : event v.run v ≡ E = ap (λ (r : Run). event r v) f.same_run in
    let up = f.flies (omega arith) in
    let was : firings_shown s.words l ≡ F = f.counted l up.0 in
    let near : l + 1 < length s.words = omega (
      arith,
      o.wide,
      counts_inside run (l + 1) (omega (arith, up.1)),
    ) in
    let same : (x : ℕ) → x ≢ l → firings_shown ws x ≡ firings_shown s.words x =
    λ x e. get_or-set_other s.words (l + 1) (x + 1) new 0 (λ t. e (omega arith)) in
    let here : (x : ℕ) → x ≡ l → firings_shown ws x ≡ F + 1 = λ x e. ap (firings_shown ws) e
    ∙ (get_or-set_same s.words (l + 1) new 0 near ∙ more) in
    let rises : (x : ℕ) → firings_shown s.words x ≤ firings_shown ws x =
    λ x. dite (ℕ_discrete x l) (λ e. omega (arith, here x e, ap (firings_shown s.words) e))
    (λ e. le_of_eq (sym (same x e))) in
    let untouched : (x j y : ℕ) → get_or ws (place run x j y) 0 ≡ get_or s.words
    (place run x j y) 0 =
    λ x j y. get_or-set_other s.words (l + 1) (place run x j y) new 0
    (λ e. omega (arith, place_behind run x j y, up.1)) in
    let T : List ℕ = tickets v E ++ v.ticket ∷ [] in
    let tickets-is : w.tickets ≡ set v.tickets E T =
    ap (λ (e : ℕ). set v.tickets e (tickets v e ++ v.ticket ∷ [])) E-is in
    let near-E : E < length v.tickets = omega (
      arith,
      f.tickets_long,
      event_below run E o.sound.among (omega (arith, of-l, up.1)),
    ) in
    let T-here : (e : ℕ) → e ≡ E → tickets w e ≡ T =
    λ e is. ap (λ (ts : List (List ℕ)). get_or ts e []) tickets-is
    ∙ (ap (λ (x : ℕ). get_or (set v.tickets E T) x []) is
    ∙ get_or-set_same v.tickets E T [] near-E) in
    let T-else : (e : ℕ) → e ≢ E → tickets w e ≡ tickets v e =
    λ e n. ap (λ (ts : List (List ℕ)). get_or ts e []) tickets-is
    ∙ get_or-set_other v.tickets E e T [] n in
    let S-here : (x : ℕ) → x ≡ l → seen w x ≡ F + 1 = λ x e. ap (seen w) e
    ∙ get_or-set_same v.seen l (F + 1) 0 (omega (arith, f.seen_long, up.1)) in
    let S-else : (x : ℕ) → x ≢ l → seen w x ≡ seen v x =
    λ x e. get_or-set_other v.seen l x (F + 1) 0 e in
    let pends : (e : ℕ) → pending run v e ≡ cond (eqb E e) (v.ticket ∷ []) [] =
    λ e. ap (λ (y : ℕ). cond (eqb y 2) (cond (eqb E e) (v.ticket ∷ []) []) []) phase in
    let aheads : (x : ℕ) → ahead v x ≡ cond (eqb l x) 1 0 =
    λ x. ap (λ (y : ℕ). cond (eqb y 2) (cond (eqb l x) 1 0) 0) phase in
    let drew-it : node_count_in_log run l log ≡ F + 1 = omega (
      arith,
      f.logged l up.0,
      aheads l,
      ap {B = ℕ} (λ b. cond b 1 0) (eq-eqb l l refl),
    ) in
    let numbers : (x y : ℕ) → y < width run x
    → version run w x y ≡ version run v x y =
    λ x y y-near. version-old run w x y (λ _ t. omega arith) ∙ dite (ℕ_discrete x l)
    (λ e. ap (λ (z : ℕ). opened run z (seen w z)) e
    ∙ (ap (opened run l) (S-here l refl) ∙ by_bool (opened run l (F + 1) ≡ version run v x y)
    (opens run E)
    (λ yes-it. opened-opens run l F yes-it ∙ (ap (λ (z : ℕ). opened run z (seen v z) + 1) (sym e)
    ∙ sym (version-new run v x y (sym e) (omega (arith, whole yes-it, ap (width run) e)))))
    (λ no-it. opened-else run l F no-it ∙ (ap (λ (z : ℕ). opened run z (seen v z)) (sym e)
    ∙ sym (version-old run v x y (λ _ t. Rattle.std.proofs.lemmas.Bool.false≢true (sym no-it
    ∙ (f.writes (omega arith)).1)))))))
    (λ e. ap (opened run x) (S-else x e) ∙ sym (version-old run v x y (λ t _. e (sym t)))) in
    let mine : Fits run ws log o.owner id w = record {
      same_run = f.same_run;
      held_long = f.held_long;
      tickets_long = ap length tickets-is ∙ (length-set v.tickets E T ∙ f.tickets_long);
      seen_long = length-set v.seen l (F + 1) ∙ f.seen_long;
      owns = f.owns;
      counted = λ x h. dite (ℕ_discrete x l) (λ e. here x e ∙ sym (S-here x e)) (λ e. same x e
          ∙ (f.counted x h ∙ sym (S-else x e)));
      logged = λ x h. dite (ℕ_discrete x l)
          (λ e. omega (arith, ap (λ (y : ℕ). node_count_in_log run y log) e, drew-it, S-here x e))
          (λ e. omega (
            arith,
            f.logged x h,
            S-else x e,
            aheads x,
            ap {B = ℕ} (λ b. cond b 1 0) (ne_eqb l x (λ t. e (sym t))),
          ));
      known = λ x h. dite (ℕ_discrete x l) (λ e. omega (arith, here x e, S-here x e))
          (λ e. omega (arith, same x e, S-else x e, f.known x h));
      kept = λ e h. f.kept e h ∙ dite (ℕ_discrete e E)
          (λ is. ap (λ b. tickets v e ++ b) (pends e
          ∙ ap (λ b. cond b (v.ticket ∷ []) []) (eq-eqb E e (sym is)))
          ∙ (ap (λ (y : ℕ). tickets v y ++ v.ticket ∷ []) is
          ∙ (sym (T-here e is) ∙ sym (append-nil (tickets w e)))))
          (λ n. ap (λ b. tickets v e ++ b) (pends e
          ∙ ap (λ b. cond b (v.ticket ∷ []) []) (ne_eqb E e (λ t. n (sym t))))
          ∙ ap (λ t. t ++ []) (sym (T-else e n)));
      known_drawn = f.known_drawn;
      values = λ x j y h near-y a b. untouched x j y
          ∙ f.values x j y h near-y (omega (arith, numbers x y near-y))
          (omega (arith, numbers x y near-y));
      writes = λ t. absurd (omega arith);
      flies = λ t. absurd (omega arith);
      no_clash = f.no_clash;
    } in
    let once-more : turns run E (F + 1) ≡ turns run E F + 1 = turns-next run l F in
    -- the counts of the events, with one firing more
    let counts : (e : ℕ) → count run (firings_shown ws) e ≡ counted E (count run (firings_shown s.words)) e =
    λ e. dite (ℕ_discrete e E)
    (λ is. let x : ℕ = node_of run e in let at-l : x ≡ l = ap (node_of run) is ∙ of-l in omega (
      arith,
      counted-same E e (count run (firings_shown s.words)) is,
      ap (turns run e) (here x at-l),
      ap (turns run e) (ap (firings_shown s.words) at-l ∙ was),
      ap (λ (y : ℕ). turns run y (F + 1)) is,
      ap (λ (y : ℕ). turns run y F) is,
      once-more,
    ))
    (λ far. let x : ℕ = node_of run e in
    dite (ℕ_discrete x l)
    (λ at-l. omega (
      arith,
      counted-other E e (count run (firings_shown s.words)) far,
      ap (turns run e) (here x at-l),
      turns-other run e l F at-l far,
      ap (turns run e) (ap (firings_shown s.words) at-l ∙ was),
    ))
    (λ off. omega (
      arith,
      counted-other E e (count run (firings_shown s.words)) far,
      ap (turns run e) (same x off),
    ))) in
    subst P (sym at-node) (
      w,
      keeps,
      tt,
      renewed run s o id v w ws log me live (λ x. refl) (length-set s.words (l + 1) new)
          (get_or-set_other s.words (l + 1) 0 new 0 (λ e. omega arith) ∙ o.next_ticket)
          o.legal
          o.in_turn
          (consistent_same run o.sound (counted E (count run (firings_shown s.words)))
          (count run (firings_shown ws)) (λ e h. counts e)
          (consistent_kept (graph run) run.limit (count run (firings_shown s.words)) E
          (flight_enabled run s o id v me live (omega arith)) o.consistent))
          (λ x h. dite (ℕ_discrete x l) (λ e. omega (
            arith,
            here x e,
            ap (λ y. node_count_in_log run y log) e,
            drew-it,
          )) (λ e. omega (arith, same x e, o.behind x h)))
          mine
          (λ j u other g. later ws log g (λ x h. same x (λ e. disjoint_holdings f g other x l up.0 h (sym e)))
          (λ x h. refl) (λ e h. refl) (λ x h. rises x) (le_refl (length log))
          (λ x k y h near'. untouched x k y)),
      refl,
    )
