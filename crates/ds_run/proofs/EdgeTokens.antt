-- Data edges with their tokens.
use Rattle.std.proofs.Common.{◌≡◌, ◌≢◌, ◌⊎◌, inl, inr, ℕ, ◌<◌, Bool, ◌&&◌, eqb, List, [], ◌∷◌, length, get_or, map, AllPairs, Any, Contains, refl, arith, ap, sym, ◌∙◌, subst, Decides, IsPermutation}
use Rattle.std.specs.List.Sorted.{IsNonDecreasingBy}
use Rattle.std.proofs.lemmas.Bool.{cases_eq, false≢true}
use Rattle.std.proofs.lemmas.Bool.Decides.{eqb_tells}
use Rattle.std.proofs.lemmas.Map.Made.{AllPairs-from_IsDistinct, IsDistinct-from_AllPairs}
use Rattle.std.proofs.lemmas.Map.Keys.{IsDistinct-IsPermutation}
use Rattle.std.proofs.lemmas.List.{get_or-map, length-map}
use Rattle.std.proofs.lemmas.List.Sorted.{Contains-permutation, IsPermutation-map, IsPermutation-sym}
use Rattle.ds_base.proofs.ListLemmas.{get_or-self}
use Rattle.ds_latch.specs.Node.{Split}
use Rattle.ds_latch.specs.declared.node.Node.{Node}
use Rattle.ds_latch.specs.Order.{IsDataEdge}
use Rattle.ds_latch.specs.Latches.{HasEdges}
use Rattle.ds_latch.specs.declared.latches.Edge.{Edge}
use Rattle.ds_control.specs.Orders.{tokens_after}
use Rattle.ds_control.proofs.Required.{named, tokens_is}
use Rattle.ds_rule.specs.declared.table_run.DataEdge.{DataEdge}
use Rattle.ds_run.specs.RunOfPlan.{AreDataEdges, Joins}
use Rattle.ds_run.specs.Tokened.{tokened}

flips : (m n : ℕ) → eqb m n ≡ eqb n m
flips m n = elim (eqb_tells m n) [
  | inl (t, e) ↦ elim (eqb_tells n m) [
    | inl (t', e') ↦ t ∙ sym t'
    | inr (f, ne) ↦ absurd (ne (sym e))
  ]
  | inr (f, ne) ↦ elim (eqb_tells n m) [
    | inl (t, e) ↦ absurd (ne (sym e))
    | inr (f', ne') ↦ f ∙ sym f'
  ]
]

edge : ℕ → ℕ → Edge
edge m n = record { producer = m; consumer = n }

same_edge : (a b : Edge) → a.producer ≡ b.producer → a.consumer ≡ b.consumer → a ≡ b
unfolding edge
same_edge a b e e' =
    ap (λ (n : ℕ). edge n a.consumer) e ∙ ap (λ (n : ℕ). edge b.producer n) e'

-- the two nodes alone
ends : DataEdge → Edge
ends e = record { producer = e.producer; consumer = e.consumer }

-- whether two edges join the same nodes
edge_eq : Edge → Edge → Bool
edge_eq a b = eqb a.producer b.producer && eqb a.consumer b.consumer

edge_tells : (a b : Edge) → Decides (edge_eq a b) (a ≡ b)
unfolding edge_eq
edge_tells a b = elim (eqb_tells a.producer b.producer) [
  | inl (t, e) ↦ elim (eqb_tells a.consumer b.consumer) [
    | inl (t', e') ↦ (
      λ _. same_edge a b e e',
      λ _. ap (λ (x : Bool). x && eqb a.consumer b.consumer) t ∙ t',
    )
    | inr (f', ne) ↦ (
      λ t'. absurd (false≢true
          (sym (ap (λ (x : Bool). x && eqb a.consumer b.consumer) t ∙ f') ∙ t')),
      λ e. absurd (ne (ap (λ (x : Edge). x.consumer) e)),
    )
  ]
  | inr (f, ne) ↦ (
    λ t. absurd (false≢true (sym (ap (λ (x : Bool). x && eqb a.consumer b.consumer) f) ∙ t)),
    λ e. absurd (ne (ap (λ (x : Edge). x.producer) e)),
  )
]

edge_flips : (a b : Edge) → edge_eq a b ≡ edge_eq b a
unfolding edge_eq
edge_flips a b = ap (λ (x : Bool). x && eqb a.consumer b.consumer) (flips a.producer b.producer)
    ∙ ap (λ (x : Bool). eqb b.producer a.producer && x) (flips a.consumer b.consumer)

ends_apart : (a b : DataEdge) → ends a ≢ ends b
    → (a.producer ≢ b.producer) ⊎ (a.consumer ≢ b.consumer)
unfolding ends
ends_apart a b apart = elim (cases_eq a.producer b.producer) [
  | inl e ↦ inr (λ e'. apart (same_edge (ends a) (ends b) e e'))
  | inr ne ↦ inl ne
]

ends-tokened : (es : List Edge) → map ends (map tokened es) ≡ es
unfolding ends
ends-tokened [] = refl
ends-tokened (e ∷ es) = ap (λ (xs : List Edge). e ∷ xs) (ends-tokened es)

module _ (s : Split) (given : List Edge) (has : HasEdges s given)
    (once : AllPairs (λ a b. a ≢ b) given) (edges : List DataEdge)
    (same : IsPermutation (map tokened given) edges) where
  -- the edge that an edge with tokens is of
  origin : (e : DataEdge) → Contains edges e → (x : Edge) × Contains given x × (tokened x ≡ e)
  unfolding ends
  origin e there =
      let (k, inside, is) = Contains-permutation edges (map tokened given) e
      (IsPermutation-sym (map tokened given) edges same) there in
      let low : k < length given = omega (arith, length-map given tokened) in (
        get_or given k (ends e),
        (k, low, get_or-self given k (ends e) low),
        sym (get_or-map tokened given k (ends e) e low) ∙ is,
      )

  -- each edge with tokens is a data edge
  each_joins : (e : DataEdge) → Contains edges e → (p c : Node) × IsDataEdge s p c × Joins p c e
  each_joins e there =
      let (x, (k, inside, is), at) = origin e there in
      let (p, from) = named x.producer in
      let (c, into) = named x.consumer in (
        p,
        c,
        (has p c).1 (k, x, inside, is, (sym from, sym into)),
        subst (Joins p c) at (record {
          from = sym from;
          into = sym into;
          tokens = ap tokens_after (sym from) ∙ tokens_is p;
        }),
      )

  -- each data edge is there
  all_join : (p c : Node) → IsDataEdge s p c → Any (Joins p c) edges
  all_join p c edge =
      let (k, x, inside, is, (from, into)) = (has p c).0 edge in
      let there : Contains (map tokened given) (tokened x) = (
        k,
        omega (arith, length-map given tokened),
        get_or-map tokened given k x (tokened x) inside ∙ ap tokened is,
      ) in
      let kept = Contains-permutation (map tokened given) edges (tokened x) same in
      let (j, below, at) = kept there in (
        j,
        tokened x,
        below,
        at,
        record {
          from = from;
          into = into;
          tokens = ap tokens_after from ∙ tokens_is p;
        },
      )

  -- and once
  ends_once : AllPairs (λ a b. a ≢ b) (map ends edges)
  ends_once =
      let ends_same : IsPermutation given (map ends edges)
      = subst (λ (es : List Edge). IsPermutation es (map ends edges)) (ends-tokened given)
      (IsPermutation-map ends (map tokened given) edges same) in
      AllPairs-from_IsDistinct edge_tells (map ends edges)
      (IsDistinct-IsPermutation edge_eq edge_flips given (map ends edges) ends_same
      (IsDistinct-from_AllPairs edge_tells given once))

  once_each : AllPairs (λ a b. (a.producer ≢ b.producer) ⊎ (a.consumer ≢ b.consumer)) edges
  unfolding ends
  once_each i j d below inside =
      let long : length (map ends edges) ≡ length edges = length-map edges ends in
      let pairs : AllPairs (λ a b. a ≢ b) (map ends edges) = ends_once in
      let at : (k : ℕ) → k < length edges
      → get_or (map ends edges) k (ends d) ≡ ends (get_or edges k d)
      = λ k low. get_or-map ends edges k d (ends d) low in
      let apart : ends (get_or edges i d) ≢ ends (get_or edges j d) =
      λ e. pairs i j (ends d) below (omega arith) (at i (omega arith) ∙ (e ∙ sym (at j inside))) in
      ends_apart (get_or edges i d) (get_or edges j d) apart

  pub are_edges : IsNonDecreasingBy (λ e. e.consumer) edges → AreDataEdges s edges
  are_edges rising = record {
    each = λ k d inside. each_joins (get_or edges k d) (k, inside, get_or-self edges k d inside);
    all = all_join;
    once = once_each;
    by_consumer = λ i j d below inside. rising i j d (omega arith) inside;
  }
