-- Firings in an order that puts each behind those that it waits for are a legal list.
use Rattle.std.proofs.Common.{◌≡◌, ◌<◌, ◌≤◌, ◌+◌, ℕ, List, [], ◌∷◌, length, get_or, inl, inr, arith, ap, sym, subst}
use Rattle.std.specs.Prelude.{All, AllPairs, Contains}
use Rattle.std.proofs.lemmas.Bool.{cases_eq, cases_lt}
use Rattle.std.proofs.lemmas.List.Elements.{All-contains, All-head, All-tail, Contains-get_or}
use Rattle.ds_marked.specs.Graph.{Graph, AreEnds, IsEnabled, IsLegalFrom, counted, counts_after}
use Rattle.ds_marked.specs.Window.{IsWindow}
use Rattle.ds_marked.specs.declared.marked.Arc.{Arc}
use Rattle.ds_marked.proofs.CountLemmas.{counted-other, counted-same}
use Rattle.ds_times.specs.Order.{AreAllFirings, Firing, fired_events}
use Rattle.ds_graph_laws.specs.Listed.{HaveNextTurns}
use Rattle.ds_graph_laws.proofs.ListPositions.{contains_head, contains_split, contains_tail, pairs_first, pairs_rest}

-- an event fires in a turn
abbrev pub firing : ℕ → ℕ → Firing
firing v k = record { event = v; turn = k }

-- what is asked of an order of the firings
pub record IsCausal (g : Graph) (turns : ℕ) (Before : Firing → Firing → Type 0) : Type 0 where
  pub one_way : (a b : Firing) → Before a b → Before b a → ⊥
  pub by_turns : (v j k : ℕ) → 0 < j → j < k → k ≤ turns → Before (firing v j) (firing v k)
  pub by_arcs : (arc : Arc) → Contains g.arcs arc → (j k : ℕ) → 0 < j → j + arc.tokens ≤ k → k ≤ turns
      → Before (firing arc.source j) (firing arc.target k)

module _ (g : Graph) (ends : AreEnds (length g.events) g.arcs) (turns : ℕ) (Before : Firing → Firing → Type 0) (causal : IsCausal g turns Before) where
  -- the list has what is left to fire at some counts
  record IsLeft (count : ℕ → ℕ) (rest : List Firing) : Type 0 where
    low : (v : ℕ) → v < length g.events → count v ≤ turns
    inside : All (λ f. (f.event < length g.events) × (0 < f.turn) × (f.turn ≤ turns)) rest
    left : (v k : ℕ) → v < length g.events → 0 < k → k ≤ turns → count v < k → Contains rest (firing v k)
    later : (v k : ℕ) → Contains rest (firing v k) → count v < k
    sorted : AllPairs Before rest

  module _ (count : ℕ → ℕ) (f : Firing) (rest : List Firing) (is : IsLeft count (f ∷ rest)) where
    here : (f.event < length g.events) × (0 < f.turn) × (f.turn ≤ turns)
    here = All-head (λ f. (f.event < length g.events) × (0 < f.turn) × (f.turn ≤ turns)) f rest is.inside

    not_before : (x : Firing) → Contains (f ∷ rest) x → Before x f → ⊥
    not_before x at before = elim (contains_split f rest x at) [
      | inl same ↦ causal.one_way f f (subst (λ (y : Firing). Before y f) (sym same) before) (subst (λ (y : Firing). Before y f) (sym same) before)
      | inr behind ↦ causal.one_way x f before (pairs_first Before f rest is.sorted x behind)
    ]

    -- the first one is its event's next
    next : f.turn ≡ count f.event + 1
    next =
        let low : count f.event < f.turn = is.later f.event f.turn (contains_head f rest) in
        elim (cases_lt (count f.event + 1) f.turn) [
          | inl lt ↦ absurd (not_before (firing f.event (count f.event + 1))
              (is.left f.event (count f.event + 1) here.0 (omega arith) (omega (arith, here.2)) (omega arith))
              (causal.by_turns f.event (count f.event + 1) f.turn (omega arith) lt here.2))
          | inr ge ↦ omega arith
        ]

    ready : (arc : Arc) → Contains g.arcs arc → arc.target ≡ f.event → count f.event + 1 ≤ count arc.source + arc.tokens
    ready arc inside e = elim (cases_lt (count arc.source + arc.tokens) (count f.event + 1)) [
      | inl lt ↦
          let both = All-contains (λ (arc : Arc). (arc.source < length g.events) × (arc.target < length g.events)) g.arcs arc ends inside in
          absurd (not_before (firing arc.source (count arc.source + 1))
          (is.left arc.source (count arc.source + 1) both.0 (omega arith) (omega (arith, here.2, next)) (omega arith))
          (subst (λ (v : ℕ). Before (firing arc.source (count arc.source + 1)) (firing v f.turn)) e
          (causal.by_arcs arc inside (count arc.source + 1) f.turn (omega arith) (omega (arith, next)) here.2)))
      | inr ge ↦ ge
    ]

    enabled : IsEnabled g turns count f.event
    enabled = record {
      event = here.0;
      below = (let low = is.later f.event f.turn (contains_head f rest) in omega (arith, here.2));
      ready = λ j d inside e. ready (get_or g.arcs j d) (Contains-get_or g.arcs j d inside) e;
    }

    behind : IsLeft (counted f.event count) rest
    behind = record {
      low = λ u lt. elim (cases_eq u f.event) [
        | inl e ↦ (let now = counted-same f.event u count e in let at : count u ≡ count f.event = ap count e in omega (arith, next, here.2))
        | inr ne ↦ (let now = counted-other f.event u count ne in let low = is.low u lt in omega arith)
      ];
      inside = All-tail (λ f. (f.event < length g.events) × (0 < f.turn) × (f.turn ≤ turns)) f rest is.inside;
      left = λ u k lt some few below. elim (cases_eq u f.event) [
        | inl e ↦
            (let now = counted-same f.event u count e in
            let at : count u ≡ count f.event = ap count e in
            elim (contains_split f rest (firing u k) (is.left u k lt some few (omega arith))) [
              | inl same ↦ (let turn : f.turn ≡ k = ap (λ (x : Firing). x.turn) same in absurd (omega (arith, next)))
              | inr at ↦ at
            ])
        | inr ne ↦
            (let now = counted-other f.event u count ne in
            elim (contains_split f rest (firing u k) (is.left u k lt some few (omega arith))) [
              | inl same ↦ absurd (ne (sym (ap (λ (x : Firing). x.event) same)))
              | inr at ↦ at
            ])
      ];
      later = λ u k at.
          let low = is.later u k (contains_tail f rest (firing u k) at) in
          elim (cases_eq u f.event) [
            | inl e ↦
                (let now = counted-same f.event u count e in
                let same : count u ≡ count f.event = ap count e in
                elim (cases_eq k f.turn) [
                  | inl turn ↦
                      (let first = pairs_first Before f rest is.sorted (firing u k) at in
                      let own : Before f f = subst (λ (j : ℕ). Before f (firing f.event j)) turn (subst (λ (w : ℕ). Before f (firing w k)) e first) in
                      absurd (causal.one_way f f own own))
                  | inr other ↦ omega (arith, next)
                ])
            | inr ne ↦ (let now = counted-other f.event u count ne in omega arith)
          ];
      sorted = pairs_rest Before f rest is.sorted;
    }

  legal_from : (count : ℕ → ℕ) (rest : List Firing) → IsLeft count rest → IsLegalFrom g turns count (fired_events rest)
  legal_from count [] is = tt
  legal_from count (f ∷ rest) is = (enabled count f rest is, legal_from (counted f.event count) rest (behind count f rest is))

  full_from : (count : ℕ → ℕ) (rest : List Firing) → IsLeft count rest → (v : ℕ) → v < length g.events → counts_after count (fired_events rest) v ≡ turns
  full_from count [] is v lt = elim (cases_lt (count v) turns) [
    | inl low ↦ let at = is.left v turns lt (omega arith) (omega arith) low in absurd (omega (arith, at.1))
    | inr high ↦ let low = is.low v lt in omega arith
  ]
  full_from count (f ∷ rest) is v lt = full_from (counted f.event count) rest (behind count f rest is) v lt

  next_from : (count : ℕ → ℕ) (rest : List Firing) → IsLeft count rest → HaveNextTurns count rest
  next_from count [] is = tt
  next_from count (f ∷ rest) is = (next count f rest is, next_from (counted f.event count) rest (behind count f rest is))

  -- all firings are left before the first one
  all_left : (firings : List Firing) → AreAllFirings Before (length g.events) turns firings → IsLeft (λ _. 0) firings
  all_left firings are = record {
    low = λ v lt. omega arith;
    inside = are.inside;
    left = λ v k lt some few below. are.each v k lt some few;
    later = λ v k at. (All-contains (λ f. (f.event < length g.events) × (0 < f.turn) × (f.turn ≤ turns)) firings (firing v k) are.inside at).1;
    sorted = are.sorted;
  }

  -- each firing has its event's next turn
  pub causal_next : (firings : List Firing) → AreAllFirings Before (length g.events) turns firings → HaveNextTurns (λ _. 0) firings
  causal_next firings are = next_from (λ _. 0) firings (all_left firings are)

  -- each event fires once in each turn, when it may
  pub causal_window : (firings : List Firing) → AreAllFirings Before (length g.events) turns firings → IsWindow g (record { turns = turns; firings = fired_events firings })
  causal_window firings are =
      record { legal = legal_from (λ _. 0) firings (all_left firings are); full = full_from (λ _. 0) firings (all_left firings are) }
