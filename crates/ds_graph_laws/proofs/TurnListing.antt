-- The events by rank and number, once for each turn.
use Rattle.std.proofs.Common.{◌≡◌, ◌<◌, ◌≤◌, ◌+◌, ℕ, zero, suc, List, [], ◌∷◌, get_or, inl, inr, arith, ap, sym, subst}
use Rattle.std.specs.Prelude.{AllPairs, Contains}
use Rattle.std.proofs.lemmas.Bool.{cases_eq}
use Rattle.std.proofs.lemmas.List.Elements.{All-contains, Contains-append_cases, Contains-append_left, Contains-append_right, Contains-get_or}
use Rattle.ds_times.specs.Order.{ComesFirst, Firing, IsListedBefore, firings_in, firings_from}
use Rattle.ds_graph_laws.proofs.CausalOrders.{firing}
use Rattle.ds_graph_laws.proofs.ListPositions.{contains_head, contains_split, contains_tail, pairs_append, pairs_cons, pairs_first, pairs_rest}
use Rattle.ds_graph_laws.specs.Listed.{TurnsAreListed}

in_turn : (order : List ℕ) (k : ℕ) (f : Firing) → Contains (firings_in order k) f → Contains order f.event × (f.turn ≡ k)
in_turn [] k f (j, inside, is) = absurd (omega arith)
in_turn (v ∷ order) k f at = elim (contains_split (firing v k) (firings_in order k) f at) [
  | inl same ↦ (
    subst (λ (u : ℕ). Contains (v ∷ order) u) (ap (λ (x : Firing). x.event) same) (contains_head v order),
    sym (ap (λ (x : Firing). x.turn) same),
  )
  | inr behind ↦ let (rest, turn) = in_turn order k f behind in (contains_tail v order f.event rest, turn)
]

turn_has : (order : List ℕ) (k v : ℕ) → Contains order v → Contains (firings_in order k) (firing v k)
turn_has [] k v (j, inside, is) = absurd (omega arith)
turn_has (u ∷ order) k v at = elim (contains_split u order v at) [
  | inl same ↦ subst (λ (w : ℕ). Contains (firings_in (u ∷ order) k) (firing w k)) same (contains_head (firing u k) (firings_in order k))
  | inr behind ↦ contains_tail (firing u k) (firings_in order k) (firing v k) (turn_has order k v behind)
]

turn_sorted : (rank : ℕ → ℕ) (order : List ℕ) (k : ℕ) → AllPairs (ComesFirst rank) order → AllPairs (IsListedBefore rank) (firings_in order k)
turn_sorted rank [] k sorted = λ i j d lt inside. absurd (omega arith)
turn_sorted rank (v ∷ order) k sorted = pairs_cons (IsListedBefore rank) (firing v k) (firings_in order k)
    (λ f at. let (is, turn) = in_turn order k f at in inr (sym turn, pairs_first (ComesFirst rank) v order sorted f.event is))
    (turn_sorted rank order k (pairs_rest (ComesFirst rank) v order sorted))

pub in_turns : (order : List ℕ) (k turns : ℕ) (f : Firing) → Contains (firings_from order k turns) f → Contains order f.event × (k ≤ f.turn) × (f.turn < k + turns)
in_turns order k zero f (j, inside, is) = absurd (omega arith)
in_turns order k (suc turns) f at = elim (Contains-append_cases (firings_in order k) (firings_from order (k + 1) turns) f at) [
  | inl now ↦ let (is, turn) = in_turn order k f now in (is, omega arith, omega arith)
  | inr later ↦ let (is, low, high) = in_turns order (k + 1) turns f later in (is, omega arith, omega arith)
]

turns_have : (order : List ℕ) (k turns v j : ℕ) → Contains order v → k ≤ j → j < k + turns → Contains (firings_from order k turns) (firing v j)
turns_have order k zero v j at low high = absurd (omega arith)
turns_have order k (suc turns) v j at low high = elim (cases_eq k j) [
  | inl same ↦ Contains-append_left (firings_in order k) (firings_from order (k + 1) turns) (firing v j)
      (subst (λ (i : ℕ). Contains (firings_in order k) (firing v i)) same (turn_has order k v at))
  | inr other ↦ Contains-append_right (firings_in order k) (firings_from order (k + 1) turns) (firing v j)
      (turns_have order (k + 1) turns v j at (omega arith) (omega arith))
]

turns_sorted : (rank : ℕ → ℕ) (order : List ℕ) (k turns : ℕ) → AllPairs (ComesFirst rank) order → AllPairs (IsListedBefore rank) (firings_from order k turns)
turns_sorted rank order k zero sorted = λ i j d lt inside. absurd (omega arith)
turns_sorted rank order k (suc turns) sorted =
    pairs_append (IsListedBefore rank) (firings_in order k) (firings_from order (k + 1) turns)
    (turn_sorted rank order k sorted) (turns_sorted rank order (k + 1) turns sorted)
    (λ f h now later.
    let (is, turn) = in_turn order k f now in
    let (at, low, high) = in_turns order (k + 1) turns h later in
    inl (omega arith))

pub turns_are_listed : TurnsAreListed
turns_are_listed rank events turns order by_rank = record {
  inside = λ j d inside.
      let f = get_or (firings_from order 1 turns) j d in
      let (at, low, high) = in_turns order 1 turns f (Contains-get_or (firings_from order 1 turns) j d inside) in
      (All-contains (λ v. v < events) order f.event by_rank.inside at, omega arith, omega arith);
  each = λ v k lt some few. turns_have order 1 turns v k (by_rank.each v lt) (omega arith) (omega arith);
  sorted = turns_sorted rank order 1 turns by_rank.sorted;
}
