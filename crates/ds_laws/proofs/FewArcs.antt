-- A controller graph that was not refused has no more arcs than a graph may have.
use Rattle.std.proofs.Common.{◌≡◌, ◌≢◌, ◌∙◌, ℕ, zero, suc, ◌+◌, ◌*◌, ◌<◌, ◌≤◌, List, [], ◌∷◌, length, get_or, Option, None, Some, inl, inr, refl, arith, ap, sym, subst, length-append}
use Rattle.std.specs.Prelude.{All, AllPairs, Contains}
use Rattle.std.specs.List.{flat_map, range_with_len}
use Rattle.std.specs.Option.{option_map}
use Rattle.std.proofs.lemmas.Bool.{cases_lt}
use Rattle.std.proofs.lemmas.List.Elements.{All-nil, All-cons}
use Rattle.std.proofs.lemmas.List.FromFn.{length-range_with_len}
use Rattle.ds_base.proofs.ListLemmas.{get_or-self}
use Rattle.ds_marked.specs.Graph.{Graph}
use Rattle.ds_marked.specs.declared.marked.Arc.{Arc}
use Rattle.ds_latch.specs.Node.{Split, nodes, number_of}
use Rattle.ds_latch.specs.Latches.{HasEdges}
use Rattle.ds_latch.specs.Order.{IsDataEdge, IsRequired, opens_first, closes_before_next, after_producer, before_reuse, open_tokens}
use Rattle.ds_latch.specs.declared.latches.Edge.{Edge}
use Rattle.ds_latch.specs.declared.node.Node.{Node}
use Rattle.ds_latch.proofs.OrderTokens.{same_node}
use Rattle.ds_control.specs.Control.{AreOrders, IsSimple}
use Rattle.ds_control.specs.Orders.{closing_arc, edge_arcs, freeing_arc, node_arcs, opening_arc, reading_arc, required_arcs}
use Rattle.ds_control.proofs.Required.{required_listed}
use Rattle.ds_control.proofs.TwoForEach.{length-two}
use Rattle.ds_shake.proofs.FlatMapLemmas.{all_flat, in_flat, pairs_flat}
use Rattle.ds_split.specs.Split.{HasTooManyOrders, IsEdgeOf}
use Rattle.ds_split.proofs.Pigeons.{few_different}

-- half of an even number
abbrev half : ℕ → Option ℕ
half zero = Some 0
half (suc zero) = None
half (suc (suc n)) = option_map (λ (k : ℕ). suc k) (half n)

-- twice a number has that half
half_even : (p : ℕ) → half (2 * p) ≡ Some p
half_even zero = refl
half_even (suc p) =
    let e : 2 * suc p ≡ suc (suc (2 * p)) = omega arith in
    ap half e ∙ ap (option_map (λ (k : ℕ). suc k)) (half_even p)

-- what has a successor comes of a number
mapped : (o : Option ℕ) (k : ℕ) → option_map (λ (k : ℕ). suc k) o ≡ Some k → (j : ℕ) × (o ≡ Some j) × (suc j ≡ k)
mapped None k is = absurd (cc)
mapped (Some j) k is = (j, refl, cc)

-- one value
some_value : (a b : ℕ) → Some a ≡ Some b → a ≡ b
some_value a b is = cc

-- a number is twice its half
half_is : (n k : ℕ) → half n ≡ Some k → n ≡ 2 * k
half_is zero k is = let e : 0 ≡ k = some_value 0 k is in omega (arith, e)
half_is (suc zero) k is = absurd (cc)
half_is (suc (suc n)) k is =
    let (j, found, next) = mapped (half n) k is in
    let low : n ≡ 2 * j = half_is n j found in
    omega (arith, low, next)

-- the edge between two halves
abbrev between : ℕ → ℕ → Edge
between p c = record { producer = p; consumer = c }

-- where there are both
abbrev edge_by : Option ℕ → Option ℕ → List Edge
edge_by None to = []
edge_by (Some p) None = []
edge_by (Some p) (Some c) = between p c ∷ []

-- the edge of an arc from one opening to another
abbrev edge_of : Arc → List Edge
edge_of a = edge_by (half a.source) (half a.target)

-- what holds of the edge of two halves
all_by : (P : Edge → Type 0) (from to : Option ℕ) → ((p c : ℕ) → from ≡ Some p → to ≡ Some c → P (between p c)) → All P (edge_by from to)
all_by P None to each = All-nil P
all_by P (Some p) None each = All-nil P
all_by P (Some p) (Some c) each = All-cons P (between p c) [] (each p c refl refl) (All-nil P)

-- there is one at most
pairs_by : (from to : Option ℕ) → AllPairs (λ (a b : Edge). a ≢ b) (edge_by from to)
pairs_by None to = λ i j d below inside. absurd (let h : j < 0 = inside in omega (h, arith))
pairs_by (Some p) None = λ i j d below inside. absurd (let h : j < 0 = inside in omega (h, arith))
pairs_by (Some p) (Some c) = λ i j d below inside. absurd (let h : j < 1 = inside in omega (h, below, arith))

-- the ends of the edge of an arc
edge_ends : (a : Arc) → All (λ e. (a.source ≡ 2 * e.producer) × (a.target ≡ 2 * e.consumer)) (edge_of a)
edge_ends a = all_by (λ e. (a.source ≡ 2 * e.producer) × (a.target ≡ 2 * e.consumer)) (half a.source) (half a.target)
    (λ p c from to. (half_is a.source p from, half_is a.target c to))

-- an edge by its ends
same_edge : (x y : Edge) → x.producer ≡ y.producer → x.consumer ≡ y.consumer → x ≡ y
same_edge x y e f = ap (λ (p : ℕ). between p x.consumer) e ∙ ap (λ (c : ℕ). between y.producer c) f

-- a required order from one opening to another is that of a data edge
order_edge : (s : Split) (u v t : ℕ) (e : Edge) → IsRequired s u v t → u ≡ 2 * e.producer → v ≡ 2 * e.consumer → IsEdgeOf s e
order_edge s _ _ _ e (opens_first n is) from to = absurd (omega (arith, to))
order_edge s _ _ _ e (closes_before_next n is) from to = absurd (omega (arith, from))
order_edge s _ _ _ e (after_producer p c edge) from to =
    (p, c, edge, same_edge e (between (number_of p) (number_of c)) (omega (arith, from)) (omega (arith, to)))
order_edge s _ _ _ e (before_reuse p c edge) from to = absurd (omega (arith, from))

module _ (s : Split) (g : Graph) (orders : AreOrders s g) (simple : IsSimple g) where
  -- the data edges, as the arcs have them
  abbrev edges : List Edge
  edges = flat_map edge_of g.arcs

  -- each is one
  edges_are : All (IsEdgeOf s) edges
  edges_are = all_flat edge_of (IsEdgeOf s) g.arcs (λ k d inside.
      let a : Arc = get_or g.arcs k d in
      let required : IsRequired s a.source a.target a.tokens = (orders a.source a.target a.tokens).1 (k, a, inside, get_or-self g.arcs k d inside, (refl, refl, refl)) in
      λ j x within.
      let (from, to) = edge_ends a j x within in
      order_edge s a.source a.target a.tokens (get_or (edge_of a) j x) required from to)

  -- so it is of each that is there
  are_edges : (e : Edge) → Contains edges e → IsEdgeOf s e
  are_edges e (k, inside, is) = subst (IsEdgeOf s) is (edges_are k e inside)

  -- none stands twice
  edges_once : AllPairs (λ (a b : Edge). a ≢ b) edges
  edges_once = pairs_flat edge_of (λ (a b : Edge). a ≢ b) g.arcs (λ k d inside. pairs_by (half (get_or g.arcs k d).source) (half (get_or g.arcs k d).target))
      (λ i j d below inside.
      let a : Arc = get_or g.arcs i d in
      let b : Arc = get_or g.arcs j d in
      λ k x first l y second same.
      let (from, to) = edge_ends a k x first in
      let (from', to') = edge_ends b l y second in
      let producers : (get_or (edge_of a) k x).producer ≡ (get_or (edge_of b) l y).producer = ap (λ (e : Edge). e.producer) same in
      let consumers : (get_or (edge_of a) k x).consumer ≡ (get_or (edge_of b) l y).consumer = ap (λ (e : Edge). e.consumer) same in
      simple i j d below inside (omega (arith, from, from', producers), omega (arith, to, to', consumers)))

  -- all are there
  has_edges : HasEdges s edges
  has_edges p c = (
    λ edge.
        let (k, a, inside, is, (from, to, tokens)) = (orders (2 * number_of p) (2 * number_of c) (open_tokens p)).0 (after_producer p c edge) in
        let here : Contains (edge_of a) (between (number_of p) (number_of c)) =
        subst (λ (es : List Edge). Contains es (between (number_of p) (number_of c)))
        (sym (ap (λ (u : ℕ). edge_by (half u) (half a.target)) from ∙ (ap (λ (v : ℕ). edge_by (half (2 * number_of p)) (half v)) to
        ∙ (ap (λ (o : Option ℕ). edge_by o (half (2 * number_of c))) (half_even (number_of p)) ∙ ap (edge_by (Some (number_of p))) (half_even (number_of c))))))
        (0, omega arith, refl) in
        let (j, low, at) = in_flat edge_of g.arcs a (between (number_of p) (number_of c)) (k, inside, is) here in
        (j, between (number_of p) (number_of c), low, at, (refl, refl)),
    λ (k, e, inside, is, (from, to)).
        let (p', c', edge, same) = are_edges e (k, inside, is) in
        let producer : number_of p' ≡ number_of p = sym (ap (λ (x : Edge). x.producer) same) ∙ from in
        let consumer : number_of c' ≡ number_of c = sym (ap (λ (x : Edge). x.consumer) same) ∙ to in
        subst (λ (n : Node). IsDataEdge s p n) (same_node c' c consumer) (subst (λ (n : Node). IsDataEdge s n c') (same_node p' p producer) edge),
  )

  -- the required orders are so many
  orders_long : length (required_arcs s edges) ≡ 2 * nodes s + 2 * length edges
  orders_long =
      let nodes_size : length (node_arcs (nodes s)) ≡ 2 * length (range_with_len 0 (nodes s)) = length-two closing_arc opening_arc (range_with_len 0 (nodes s)) in
      let range_size : length (range_with_len 0 (nodes s)) ≡ nodes s = length-range_with_len 0 (nodes s) in
      let edges_size : length (edge_arcs s.slack edges) ≡ 2 * length edges = length-two reading_arc (freeing_arc s.slack) edges in
      length-append (node_arcs (nodes s)) (edge_arcs s.slack edges) ∙ omega (arith, nodes_size, range_size, edges_size)

  -- and each arc is one of them
  arcs_fit : length g.arcs ≤ 2 * nodes s + 2 * length edges
  arcs_fit =
      let once : AllPairs (λ (a b : Arc). a ≢ b) g.arcs = λ i j d below inside same.
      simple i j d below inside (ap (λ (a : Arc). a.source) same, ap (λ (a : Arc). a.target) same) in
      let less : length g.arcs ≤ length (required_arcs s edges) = few_different g.arcs (required_arcs s edges) once (λ a (k, inside, is).
      required_listed s edges has_edges a.source a.target a.tokens ((orders a.source a.target a.tokens).1 (k, a, inside, is, (refl, refl, refl)))) in
      let long : length (required_arcs s edges) ≡ 2 * nodes s + 2 * length edges = orders_long in
      omega (arith, less, long)

  -- so there are few enough
  pub few_arcs : ¬ HasTooManyOrders s → length g.arcs ≤ 1048576
  few_arcs fits = elim (cases_lt 1048576 (length g.arcs)) [
    | inl many ↦
        (let all : length g.arcs ≤ 2 * nodes s + 2 * length edges = arcs_fit in
        absurd (fits (record { edges = edges; data_edges = are_edges; once = edges_once; many = omega (arith, many, all) })))
    | inr few ↦ few
  ]
