-- Ranks exist, or a cycle does.
use Rattle.std.proofs.Common.{◌≡◌, ◌≢◌, ◌⊎◌, ◌∙◌, ◌+◌, ◌<◌, ℕ, zero, suc, List, [], ◌∷◌, length, get_or, map, inl, inr, refl, sym, subst, arith}
use Rattle.std.specs.Prelude.{All, AllPairs}
use Rattle.std.specs.List.{range_with_len}
use Rattle.std.proofs.lemmas.Bool.{cases_eq}
use Rattle.std.proofs.lemmas.List.{get_or_default}
use Rattle.std.proofs.lemmas.List.Elements.{All-cons}
use Rattle.std.proofs.lemmas.List.FromFn.{get_or-map-range_with_len, length-map-range_with_len}
use Rattle.std.proofs.lemmas.List.Kept.{AllPairs-cons}
use Rattle.ds_base.proofs.ListLemmas.{cases_Contains}
use Rattle.ds_marked.specs.Graph.{Graph, IsLive}
use Rattle.ds_rank.specs.declared.edge.Edge.{Edge}
use Rattle.ds_rank.specs.Free.{free_part}
use Rattle.ds_rank.specs.Order.{HasEdge, IsCycle, IsRanks, IsWalk}
use Rattle.ds_rank.specs.Rank.{HasFreeArc}
use Rattle.ds_rank.specs.Search.{EndsAreNodes}
use Rattle.ds_rank.proofs.RelatedOrders.{cycle_by, ranks_by}
use Rattle.ds_rank.proofs.Freed.{free_ends, free_from, free_into}
use Rattle.ds_rank.proofs.RankedEdges.{no_cycle}
use Rattle.ds_graph_laws.specs.Ranked.{EventsHaveRanksOrCycle, LiveGraphsHaveRanks, RanksOrCycle}
use Rattle.ds_graph_laws.proofs.ClosedWalkIsCycle.{few_apart, walk_cycle}
use Rattle.ds_graph_laws.proofs.Rounds.{level, raise, raise_above, raise_low, raise_moves, raise_tight}

-- each number below one has P, or one of them has not
pub each_or_some : (P : ℕ → Type 0) → ((v : ℕ) → P v ⊎ (¬ P v)) → (n : ℕ)
    → ((v : ℕ) → v < n → P v) ⊎ ((v : ℕ) × (v < n) × (¬ P v))
each_or_some P cases zero = inl (λ v low. absurd (omega arith))
each_or_some P cases (suc n) = elim (each_or_some P cases n) [
  | inl each ↦ elim (cases n) [
    | inl here ↦ inl (λ v low. elim (cases_eq v n) [
      | inl same ↦ subst P (sym same) here
      | inr apart ↦ each v (omega arith)
    ])
    | inr fails ↦ inr (n, omega arith, fails)
  ]
  | inr (v, low, fails) ↦ inr (v, omega arith, fails)
]

module _ (edges : List Edge) (count : ℕ) (floor : ℕ → ℕ) (ends : EndsAreNodes count edges) where
  -- the ends of an edge are nodes
  source_low : (u v : ℕ) → HasEdge edges u v → u < count
  source_low u v (k, inside, source, target) = rw source at (ends k inside).0

  target_low : (u v : ℕ) → HasEdge edges u v → v < count
  target_low u v (k, inside, source, target) = rw target at (ends k inside).1

  -- values that a round leaves as they are, are ranks
  module _ (f : ℕ → ℕ) (stays : (v : ℕ) → v < count → raise edges f (floor v) v ≡ f v) where
    rank_at : (v : ℕ) → v < count → get_or (map f (range_with_len 0 count)) v 0 ≡ f v
    rank_at v low = get_or-map-range_with_len f 0 count v v 0 low (omega arith)

    stay_ranks : IsRanks (HasEdge edges) count floor (map f (range_with_len 0 count))
    stay_ranks = record {
      size = length-map-range_with_len f 0 count;
      least = λ v low. omega (arith, rank_at v low, stays v low, raise_low edges f (floor v) v);
      above = λ u v leads. (
          let low = source_low u v leads in
          let high = target_low u v leads in
          omega (arith, rank_at u low, rank_at v high, stays v high, raise_above edges f (floor v) u v leads));
      tight = λ v low. elim (raise_tight edges f (floor v) v) [
        | inl is ↦ inl (omega (arith, rank_at v low, stays v low))
        | inr (u, leads, is) ↦ inr (u, leads, omega (arith, rank_at u (source_low u v leads), rank_at v low, stays v low))
      ];
    }

  -- a node that still moves has a source that has moved before it, and so back along a walk that
  -- comes to be longer than there are nodes
  chase : (k u : ℕ) (xs : List ℕ) (b : ℕ) → IsWalk (HasEdge edges) u xs b → AllPairs (λ a b. a ≢ b) (u ∷ xs)
      → All (λ x. x < count) (u ∷ xs) → level edges floor (suc k) u ≢ level edges floor k u
      → count < k + length (u ∷ xs) → (nodes : List ℕ) × IsCycle (HasEdge edges) nodes
  chase zero u xs b walk once low moves long = absurd (omega (arith, few_apart (u ∷ xs) count once low))
  chase (suc k) u xs b walk once low moves long =
      let (w, leads, moved) = raise_moves edges (level edges floor (suc k)) (level edges floor k) (floor u) u moves in
      elim (cases_Contains (u ∷ xs) w) [
        | inl back ↦ walk_cycle (HasEdge edges) w (u ∷ xs) b (leads, walk) once back
        | inr new ↦ chase k w (u ∷ xs) b (leads, walk)
            (AllPairs-cons (λ a b. a ≢ b) w (u ∷ xs) (λ j d inside e. new (j, inside, get_or_default (u ∷ xs) j w d inside ∙ sym e)) once)
            (All-cons (λ x. x < count) w (u ∷ xs) (source_low w u leads) low) moved (omega arith)
      ]

  -- after one round more than there are nodes the values stay, or a node still moves
  found : ((ranks : List ℕ) × IsRanks (HasEdge edges) count floor ranks) ⊎ ((nodes : List ℕ) × IsCycle (HasEdge edges) nodes)
  found =
      let last : ℕ → ℕ = level edges floor (suc count) in
      elim (each_or_some (λ v. raise edges last (floor v) v ≡ last v) (λ v. cases_eq (raise edges last (floor v) v) (last v)) count) [
        | inl stays ↦ inl (map last (range_with_len 0 count), stay_ranks last stays)
        | inr (v, low, moves) ↦
            let (u, leads, moved) = raise_moves edges last (level edges floor count) (floor v) v moves in
            inr (chase count u [] v leads (λ i j d below inside. absurd (omega arith))
            (All-cons (λ x. x < count) u [] (source_low u v leads) (λ j d inside. absurd (omega arith))) moved (omega arith))
      ]

-- edges between nodes give ranks, or some of them lead in a circle
pub ranks_or_cycle : RanksOrCycle
ranks_or_cycle edges count floor ends = found edges count floor ends

-- arcs without tokens are such edges
pub events_have_ranks_or_cycle : EventsHaveRanksOrCycle
events_have_ranks_or_cycle g ends =
    elim (ranks_or_cycle (free_part g.arcs) (length g.events) (λ _. 0) (free_ends g.arcs (length g.events) ends)) [
      | inl (ranks, are) ↦ inl (
        ranks,
        ranks_by (HasEdge (free_part g.arcs)) (HasFreeArc g) (free_from g.arcs) (free_into g.arcs) (length g.events) (length g.events) (λ _. 0) (λ _. 0) ranks refl (λ v low. refl) are,
      )
      | inr (events, cycle) ↦ inr (events, cycle_by (HasEdge (free_part g.arcs)) (HasFreeArc g) (free_from g.arcs) events cycle)
    ]

-- the numbering of a graph in which nothing waits for itself rises along its arcs without tokens
live_rises : (g : Graph) (live : IsLive g) (u v : ℕ) → HasFreeArc g u v → live.rank u < live.rank v
live_rises g live u v (k, arc, inside, is, (source, target, free)) =
    let rises : arc.tokens ≡ 0 → live.rank arc.source < live.rank arc.target = rw is at (live.rises k arc inside) in
    rw (source, target) at (rises free)

-- so its arcs without tokens lead in no circle
pub live_graphs_have_ranks : LiveGraphsHaveRanks
live_graphs_have_ranks g live = elim (events_have_ranks_or_cycle g live.ends) [
  | inl ranked ↦ ranked
  | inr (events, cycle) ↦ absurd (no_cycle (HasFreeArc g) live.rank (live_rises g live) events cycle)
]
