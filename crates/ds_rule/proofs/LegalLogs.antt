-- A log is a legal list of firings.
use Rattle.std.proofs.Common.{◌≡◌, ℕ, ◌+◌, ◌<◌, ◌≤◌, List, [], ◌∷◌, ◌++◌, length, sym, refl, ap, ◌∙◌, subst, arith}
use Rattle.std.proofs.Common.{All, get_or, cond, eq-eqb, ne_eqb}
use mathlib.Core.Logic.{dite}
use native.Mathlib.Decide.{ℕ_discrete}
use Rattle.ds_marked.specs.Graph.{Graph, IsEnabled, IsLegalFrom, counted, counts_after}
use Rattle.ds_marked.specs.declared.marked.Arc.{Arc}
use Rattle.ds_rule.specs.Log.{count_in_log, firings}
use Rattle.ds_rule.specs.Laws.{LogsAreLegal}
use Rattle.ds_rule.proofs.EventLaws.{event_below}
use Rattle.ds_rule.proofs.LogCounts.{count_in_log-here, count_in_log-else}

-- one event more behind a list
counts-push : (count : ℕ → ℕ) (xs : List ℕ) (v e : ℕ)
    → counts_after count (xs ++ v ∷ []) e ≡ counted v (counts_after count xs) e
counts-push count [] v e = refl
counts-push count (x ∷ xs) v e = counts-push (counted x count) xs v e

legal_push : (g : Graph) (limit : ℕ) (count : ℕ → ℕ) (xs : List ℕ) (v : ℕ)
    → IsLegalFrom g limit count xs → IsEnabled g limit (counts_after count xs) v
    → IsLegalFrom g limit count (xs ++ v ∷ [])
legal_push g limit count [] v legal on = (on, tt)
legal_push g limit count (x ∷ xs) v legal on =
    (legal.0, legal_push g limit (counted x count) xs v legal.1 on)

-- the count of an event, as its number of entries
counted-count_in_log : (count : ℕ → ℕ) (e x : ℕ) (xs : List ℕ) → count e ≡ count_in_log e xs
    → counted x count e ≡ count_in_log e (x ∷ xs)
counted-count_in_log count e x xs same = dite (ℕ_discrete e x)
    (λ here. ap (λ b. cond b (count e + 1) (count e)) (eq-eqb e x here)
    ∙ (ap (λ n. n + 1) same ∙ sym (count_in_log-here e x xs (sym here))))
    (λ away. ap (λ b. cond b (count e + 1) (count e)) (ne_eqb e x away)
    ∙ (same ∙ sym (count_in_log-else e x xs (λ t. away (sym t)))))

pub logs_are_legal : LogsAreLegal
logs_are_legal g run is [] legal turn = (tt, λ e. refl)
logs_are_legal g run is (x ∷ xs) legal turn =
    let before = logs_are_legal g run is xs legal.0 turn.0 in
    let count : ℕ → ℕ = counts_after (λ _. 0) (firings xs) in
    let inside : x < length g.events = omega (arith, is.events_are, event_below run x is.among turn.1) in
    let on : IsEnabled g run.limit count x = record {
      event = inside;
      below = omega (arith, before.1 x, legal.1.below);
      ready = subst (All (λ arc. arc.target ≡ x → count x + 1 ≤ count arc.source + arc.tokens))
          (sym is.arcs_are)
          (λ k d near into. let a : Arc = get_or run.arcs k d in
          omega (arith, before.1 x, before.1 a.source, legal.1.ready k d near into));
    } in (
      legal_push g run.limit (λ _. 0) (firings xs) x before.0 on,
      λ e. counts-push (λ _. 0) (firings xs) x e ∙ counted-count_in_log count e x xs (before.1 e),
    )
