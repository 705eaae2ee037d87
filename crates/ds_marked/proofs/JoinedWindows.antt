-- The lists of windows, one after the other, are one legal list.
use Rattle.std.proofs.Common.{◌≡◌, ℕ, ◌+◌, ◌<◌, ◌≤◌, List, [], ◌∷◌, length, get_or, refl, arith, ap, sym, ◌∙◌, inl, inr, add-zero}
use Rattle.std.specs.Prelude.{All}
use Rattle.std.proofs.lemmas.Bool.{cases_eq}
use Rattle.std.proofs.lemmas.List.Elements.{All-head, All-tail}
use Rattle.ds_marked.specs.Graph.{Graph, IsEnabled, IsLegalFrom, IsLive, counted, counts_after}
use Rattle.ds_marked.specs.declared.marked.Arc.{Arc}
use Rattle.ds_marked.specs.Window.{Window, IsWindow, joined_windows}
use Rattle.ds_marked.proofs.CountLemmas.{counted-same, counted-other, append_legal, append_after}

module _ (g : Graph) (live : IsLive g) where
  -- counts that are so much higher at each event
  abbrev AreHigher : ℕ → (ℕ → ℕ) → (ℕ → ℕ) → Type 0
  AreHigher turns count higher = (v : ℕ) → v < length g.events → higher v ≡ turns + count v

  higher_counted : (turns v : ℕ) (count higher : ℕ → ℕ) → AreHigher turns count higher → AreHigher turns (counted v count) (counted v higher)
  higher_counted turns v count higher are u inside =
      let before : higher u ≡ turns + count u = are u inside in
      elim (cases_eq u v) [
        | inl e ↦ (let a : counted v higher u ≡ higher u + 1 = counted-same v u higher e in let b : counted v count u ≡ count u + 1 = counted-same v u count e in omega arith)
        | inr ne ↦ (let a : counted v higher u ≡ higher u = counted-other v u higher ne in let b : counted v count u ≡ count u = counted-other v u count ne in omega arith)
      ]

  higher_enabled : (turns limit v : ℕ) (count higher : ℕ → ℕ) → AreHigher turns count higher → IsEnabled g limit count v → IsEnabled g (turns + limit) higher v
  higher_enabled turns limit v count higher are enabled =
      let at : higher v ≡ turns + count v = are v enabled.event in
      record {
        event = enabled.event;
        below = (let low : count v < limit = enabled.below in omega arith);
        ready = λ j d inside e.
            let arc : Arc = get_or g.arcs j d in
            let source : higher arc.source ≡ turns + count arc.source = are arc.source (live.ends j d inside).0 in
            let ready : count v + 1 ≤ count arc.source + arc.tokens = enabled.ready j d inside e in
            omega arith;
      }

  higher_legal : (turns limit : ℕ) (count higher : ℕ → ℕ) → AreHigher turns count higher → (events : List ℕ) → IsLegalFrom g limit count events → IsLegalFrom g (turns + limit) higher events
  higher_legal turns limit count higher are [] legal = tt
  higher_legal turns limit count higher are (v ∷ events) (enabled, legal) =
      (higher_enabled turns limit v count higher are enabled, higher_legal turns limit (counted v count) (counted v higher) (higher_counted turns v count higher are) events legal)

  higher_after : (turns : ℕ) (count higher : ℕ → ℕ) → AreHigher turns count higher → (events : List ℕ) → AreHigher turns (counts_after count events) (counts_after higher events)
  higher_after turns count higher are [] = are
  higher_after turns count higher are (v ∷ events) = higher_after turns (counted v count) (counted v higher) (higher_counted turns v count higher are) events

  longer_legal : (limit more : ℕ) (count : ℕ → ℕ) (events : List ℕ) → IsLegalFrom g limit count events → IsLegalFrom g (limit + more) count events
  longer_legal limit more count [] legal = tt
  longer_legal limit more count (v ∷ events) (enabled, legal) =
      let low : count v < limit = enabled.below in
      (record { event = enabled.event; below = omega arith; ready = enabled.ready }, longer_legal limit more (counted v count) events legal)

  first_window : (w : Window) → IsWindow g w → AreHigher w.turns (λ _. 0) (counts_after (λ _. 0) w.firings)
  first_window w is v inside = is.full v inside ∙ sym (add-zero w.turns)

  pub lists_in_windows : (windows : List Window) → All (IsWindow g) windows → IsWindow g (joined_windows windows)
  lists_in_windows [] all = record { legal = tt; full = λ v inside. refl }
  lists_in_windows (w ∷ windows) all =
      let here : IsWindow g w = All-head (IsWindow g) w windows all in
      let rest : IsWindow g (joined_windows windows) = lists_in_windows windows (All-tail (IsWindow g) w windows all) in
      record {
        legal = append_legal g (w.turns + (joined_windows windows).turns) (λ _. 0) w.firings (joined_windows windows).firings
            (longer_legal w.turns (joined_windows windows).turns (λ _. 0) w.firings here.legal)
            (higher_legal w.turns (joined_windows windows).turns (λ _. 0) (counts_after (λ _. 0) w.firings) (first_window w here) (joined_windows windows).firings rest.legal);
        full = λ v inside.
            append_after (λ _. 0) w.firings (joined_windows windows).firings v
            ∙ (higher_after w.turns (λ _. 0) (counts_after (λ _. 0) w.firings) (first_window w here) (joined_windows windows).firings v inside
            ∙ ap (λ (n : ℕ). w.turns + n) (rest.full v inside));
      }
