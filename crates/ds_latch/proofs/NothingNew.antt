-- What an accepted graph lets fire, the required orders let fire too.
use Rattle.std.proofs.Common.{◌≡◌, ℕ, ◌+◌, ◌*◌, ◌<◌, ◌≤◌, ◌↔◌, Bool, true, false, List, [], ◌∷◌, length, get_or, refl, arith, ap, sym, ◌∙◌, inl, inr, subst, ltb}
use Rattle.std.specs.Prelude.{All}
use Rattle.std.specs.List.{filter}
use Rattle.std.proofs.lemmas.Bool.{cases_eq, cases_lt}
use Rattle.std.proofs.lemmas.Bool.Decides.{Decides-ltb}
use Rattle.ds_base.proofs.ListLemmas.{get_or-self}
use Rattle.ds_marked.specs.Graph.{Graph, Agrees, IsArc, IsEnabled, IsLegal, IsLegalFrom, counted}
use Rattle.ds_marked.specs.declared.marked.Arc.{Arc}
use Rattle.ds_marked.proofs.CountLemmas.{agrees_kept, counted-same, counted-other}
use Rattle.ds_latch.specs.Node.{Split, nodes}
use Rattle.ds_latch.specs.Order.{IsRequired}
use Rattle.ds_latch.specs.Plan.{IsPlan, split_events}
use Rattle.ds_latch.specs.Controls.{node_firings}
use Rattle.ds_latch.proofs.OrderTokens.{accepted_controls, order_ready}
use Rattle.ds_latch.proofs.EventNodes.{is_false}
use Rattle.ds_latch.proofs.OrdersRise.{events_long, required_inside}

-- an item that passes stays, another one goes
stays : (p : ℕ → Bool) (x : ℕ) (xs : List ℕ) → p x ≡ true → filter p (x ∷ xs) ≡ x ∷ filter p xs
stays p x xs is = rw is refl

goes : (p : ℕ → Bool) (x : ℕ) (xs : List ℕ) → p x ≡ false → filter p (x ∷ xs) ≡ filter p xs
goes p x xs is = rw is refl

module _ (s : Split) (g orders : Graph) (plan : IsPlan s g) (events : orders.events ≡ split_events s)
    (are : (u v tokens : ℕ) → IsRequired s u v tokens ↔ IsArc orders u v tokens) (limit : ℕ) where
  -- the nodes' events have fired as often
  abbrev AgreeOnNodes : (ℕ → ℕ) → (ℕ → ℕ) → Type 0
  AgreeOnNodes count cut = (u : ℕ) → u < 2 * nodes s → cut u ≡ count u

  arc_required : (j : ℕ) (d : Arc) → j < length orders.arcs → IsRequired s (get_or orders.arcs j d).source (get_or orders.arcs j d).target (get_or orders.arcs j d).tokens
  arc_required j d inside =
      (are (get_or orders.arcs j d).source (get_or orders.arcs j d).target (get_or orders.arcs j d).tokens).1 (j, get_or orders.arcs j d, inside, get_or-self orders.arcs j d inside, (refl, refl, refl))

  enabled_too : (count cut : ℕ → ℕ) → All (Agrees count) g.arcs → AgreeOnNodes count cut → (v : ℕ) → v < 2 * nodes s → IsEnabled g limit count v → IsEnabled orders limit cut v
  enabled_too count cut agrees same v of_node enabled =
      let here : cut v ≡ count v = same v of_node in
      record {
        event = (let long : length orders.events ≡ 2 * nodes s = ap length events ∙ events_long s in omega arith);
        below = (let low : count v < limit = enabled.below in omega arith);
        ready = λ j d inside e.
            let arc : Arc = get_or orders.arcs j d in
            let required : IsRequired s arc.source v arc.tokens = subst (λ (t : ℕ). IsRequired s arc.source t arc.tokens) e (arc_required j d inside) in
            let ready : count v + 1 ≤ count arc.source + arc.tokens = order_ready s g (accepted_controls s g plan) count agrees limit v enabled arc.source arc.tokens required in
            let there : cut arc.source ≡ count arc.source = same arc.source (required_inside s arc.source v arc.tokens required).0 in
            omega arith;
      }

  counted_both : (count cut : ℕ → ℕ) → AgreeOnNodes count cut → (v : ℕ) → AgreeOnNodes (counted v count) (counted v cut)
  counted_both count cut same v u of_node =
      let before : cut u ≡ count u = same u of_node in
      elim (cases_eq u v) [
        | inl e ↦ (let a : counted v cut u ≡ cut u + 1 = counted-same v u cut e in let b : counted v count u ≡ count u + 1 = counted-same v u count e in omega arith)
        | inr ne ↦ counted-other v u cut ne ∙ (before ∙ sym (counted-other v u count ne))
      ]

  counted_past : (count cut : ℕ → ℕ) → AgreeOnNodes count cut → (v : ℕ) → 2 * nodes s ≤ v → AgreeOnNodes (counted v count) cut
  counted_past count cut same v past u of_node = same u of_node ∙ sym (counted-other v u count (λ e. absurd (omega (arith, e))))

  cut_is_legal : (list : List ℕ) (count cut : ℕ → ℕ) → All (Agrees count) g.arcs → AgreeOnNodes count cut → IsLegalFrom g limit count list → IsLegalFrom orders limit cut (node_firings s list)
  cut_is_legal [] count cut agrees same legal = tt
  cut_is_legal (v ∷ list) count cut agrees same (enabled, legal) =
      let next : All (Agrees (counted v count)) g.arcs = agrees_kept g limit count v enabled agrees in
      elim (cases_lt v (2 * nodes s)) [
        | inl of_node ↦ subst (IsLegalFrom orders limit cut) (sym (stays (λ v. ltb v (2 * nodes s)) v list ((Decides-ltb v (2 * nodes s)).1 of_node)))
            (enabled_too count cut agrees same v of_node enabled, cut_is_legal list (counted v count) (counted v cut) next (counted_both count cut same v) legal)
        | inr past ↦ subst (IsLegalFrom orders limit cut) (sym (goes (λ v. ltb v (2 * nodes s)) v list (is_false (ltb v (2 * nodes s)) (λ e. (let low : v < 2 * nodes s = (Decides-ltb v (2 * nodes s)).0 e in absurd (omega arith))))))
            (cut_is_legal list (counted v count) cut next (counted_past count cut same v past) legal)
      ]

  pub nothing_new_fires : (list : List ℕ) → IsLegal g limit list → IsLegal orders limit (node_firings s list)
  nothing_new_fires list legal = cut_is_legal list (λ _. 0) (λ _. 0) (λ j d inside. omega arith) (λ u of_node. refl) legal
