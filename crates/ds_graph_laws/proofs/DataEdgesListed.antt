-- Whether there is a data edge from one node to another is decided, and so the data edges can be listed.
use Rattle.std.proofs.Common.{◌≡◌, ◌≢◌, ◌⊎◌, inl, inr, ℕ, zero, suc, ◌+◌, ◌*◌, ◌<◌, List, [], ◌∷◌, ◌++◌, length, refl, sym, ◌∙◌, ap, subst, arith}
use Rattle.std.specs.Prelude.{AllPairs, Any}
use Rattle.std.proofs.lemmas.Bool.{cases_eq, cases_lt}
use Rattle.ds_base.proofs.ListLemmas.{cases_Any}
use Rattle.ds_design.specs.Accepted.{IsAccepted}
use Rattle.ds_design.specs.Reach.{Reaches}
use Rattle.ds_latch.specs.Node.{Split, IsNode, number_of, nodes, nets_of}
use Rattle.ds_latch.specs.declared.node.Node.{Node}
use Rattle.ds_latch.specs.declared.node.Node.TheVariants.{In, Out, Master, Slave}
use Rattle.ds_latch.specs.Order.{IsDataEdge, to_master, to_out, to_slave, IsSource, Supplies}
use Rattle.ds_latch.specs.Latches.{HasEdges}
use Rattle.ds_latch.specs.declared.latches.Edge.{Edge}
use Rattle.ds_latch.proofs.OrderTokens.{number_below, same_node}
use Rattle.ds_latch.proofs.OrdersRise.{edge_nodes}
use Rattle.ds_split.specs.Search.{edge_of}
use Rattle.ds_split.specs.Split.{IsEdgeOf}
use Rattle.ds_split.proofs.DataEdges.{same_edge}
use Rattle.ds_control.proofs.Required.{named}
use Rattle.ds_graph_laws.proofs.Chosen.{HasExactly, list_none, list_one, list_both, list_means}
use Rattle.ds_graph_laws.proofs.ReachDecided.{reach_cases}

-- what an edge into a node is
into_out : (s : Split) (p : Node) → IsDataEdge s p Out → IsSource p × IsNode s p × Supplies s p Out
into_out s p (to_out source node supplies) = (source, node, supplies)

into_master : (s : Split) (i : ℕ) (p : Node) → IsDataEdge s p (Master i) → IsSource p × IsNode s p × (i < length s.clusters) × Supplies s p (Master i)
into_master s i p (to_master source node inside supplies) = (source, node, inside, supplies)

into_slave : (s : Split) (i : ℕ) (p : Node) → IsDataEdge s p (Slave i) → (p ≡ Master i) × (i < length s.clusters)
into_slave s i _ (to_slave inside) = (refl, inside)

into_in : (s : Split) (p : Node) → ¬ IsDataEdge s p In
into_in s p edge = elim edge [ ]

-- a node is a source that is there or it is none
source_cases : (s : Split) (p : Node) → (IsSource p × IsNode s p) ⊎ (¬ (IsSource p × IsNode s p))
source_cases s In = inl (tt, tt)
source_cases s Out = inr (λ is. is.0)
source_cases s (Master j) = inr (λ is. is.0)
source_cases s (Slave j) = elim (cases_lt j (length s.clusters)) [ inl low ↦ inl (tt, low) | inr high ↦ inr (λ is. let h : j < length s.clusters = is.1 in absurd (omega arith)) ]

-- a master is read by its slave or is not there, and no other node is read by a slave
slave_cases : (s : Split) (p : Node) (i : ℕ) → IsDataEdge s p (Slave i) ⊎ (¬ IsDataEdge s p (Slave i))
slave_cases s In i = inr (λ edge. let e : 0 ≡ 2 * i + 2 = ap number_of (into_slave s i In edge).0 in absurd (omega arith))
slave_cases s Out i = inr (λ edge. let e : 1 ≡ 2 * i + 2 = ap number_of (into_slave s i Out edge).0 in absurd (omega arith))
slave_cases s (Slave j) i = inr (λ edge. let e : 2 * j + 3 ≡ 2 * i + 2 = ap number_of (into_slave s i (Slave j) edge).0 in absurd (omega arith))
slave_cases s (Master j) i = elim (cases_eq j i) [
  | inl same ↦ elim (cases_lt i (length s.clusters)) [
    | inl low ↦ inl (subst (λ (k : ℕ). IsDataEdge s (Master k) (Slave i)) (sym same) (to_slave low))
    | inr high ↦ inr (λ edge. let h : i < length s.clusters = (into_slave s i (Master j) edge).1 in absurd (omega arith))
  ]
  | inr other ↦ inr (λ edge. let e : 2 * j + 2 ≡ 2 * i + 2 = ap number_of (into_slave s i (Master j) edge).0 in other (omega arith))
]

module _ (s : Split) (accepted : IsAccepted s.circuit) where
  -- a node supplies another or does not
  pub supplies_cases : (p c : Node) → Supplies s p c ⊎ (¬ Supplies s p c)
  supplies_cases p c =
      elim (cases_Any (λ (a : ℕ). Any (λ b. Reaches s.circuit a b) (nets_of s c))
      (λ a. cases_Any (λ (b : ℕ). Reaches s.circuit a b) (λ b. reach_cases s.circuit accepted a b) (nets_of s c)) (nets_of s p)) [
        | inl (k, a, inside, is, (j, b, low, at, path)) ↦ inl (a, b, (k, inside, is), (j, low, at), path)
        | inr none ↦ inr (λ (a, b, (k, inside, is), (j, low, at), path). none (k, a, inside, is, (j, b, low, at, path)))
      ]

  -- there is a data edge from one node to another or there is none
  pub edge_cases : (p c : Node) → IsDataEdge s p c ⊎ (¬ IsDataEdge s p c)
  edge_cases p In = inr (into_in s p)
  edge_cases p Out = elim (source_cases s p) [
    | inl (source, node) ↦ elim (supplies_cases p Out) [
      | inl supplies ↦ inl (to_out source node supplies)
      | inr none ↦ inr (λ edge. none (into_out s p edge).2)
    ]
    | inr other ↦ inr (λ edge. other ((into_out s p edge).0, (into_out s p edge).1))
  ]
  edge_cases p (Master i) = elim (source_cases s p) [
    | inl (source, node) ↦ elim (cases_lt i (length s.clusters)) [
      | inl inside ↦ elim (supplies_cases p (Master i)) [
        | inl supplies ↦ inl (to_master source node inside supplies)
        | inr none ↦ inr (λ edge. none (into_master s i p edge).3)
      ]
      | inr high ↦ inr (λ edge. let h : i < length s.clusters = (into_master s i p edge).2 in absurd (omega arith))
    ]
    | inr other ↦ inr (λ edge. other ((into_master s i p edge).0, (into_master s i p edge).1))
  ]
  edge_cases p (Slave i) = slave_cases s p i

  -- the edge of two numbers is a data edge or is none
  pub numbers_cases : (m n : ℕ) → IsEdgeOf s (edge_of m n) ⊎ (¬ IsEdgeOf s (edge_of m n))
  numbers_cases m n =
      let (p, from) = named m in
      let (c, to) = named n in
      elim (edge_cases p c) [
        | inl edge ↦ inl (p, c, edge, same_edge (edge_of m n) (number_of p) (number_of c) (sym from) (sym to))
        | inr none ↦ inr (λ (q, d, edge, is). none (
            let one : q ≡ p = same_node q p (sym (ap (λ (e : Edge). e.producer) is) ∙ sym from) in
            let other : d ≡ c = same_node d c (sym (ap (λ (e : Edge). e.consumer) is) ∙ sym to) in
            subst (λ (x : Node). IsDataEdge s x c) one (subst (λ (x : Node). IsDataEdge s q x) other edge)))
      ]

  -- a data edge from the node with a number to one below another
  abbrev InRow : ℕ → ℕ → Edge → Type 0
  InRow m n e = (e.producer ≡ m) × (e.consumer < n) × IsEdgeOf s e

  -- a data edge from a node below a number
  abbrev InRows : ℕ → Edge → Type 0
  InRows m e = (e.producer < m) × (e.consumer < nodes s) × IsEdgeOf s e

  row_same : (m n : ℕ) (edges : List Edge) → ¬ IsEdgeOf s (edge_of m n) → HasExactly (InRow m n) edges → HasExactly (InRow m (suc n)) edges
  row_same m n edges none are = list_means (InRow m n) (InRow m (suc n)) edges
      (λ e is. (is.0, (let h : e.consumer < n = is.1 in omega arith), is.2))
      (λ e is. elim (cases_lt e.consumer n) [
        | inl below ↦ (is.0, below, is.2)
        | inr high ↦ absurd (none (subst (λ (x : Edge). IsEdgeOf s x) (same_edge e m n is.0 (let h : e.consumer < suc n = is.1 in omega arith)) is.2))
      ])
      are

  row_more : (m n : ℕ) (edges : List Edge) → IsEdgeOf s (edge_of m n) → HasExactly (InRow m n) edges → HasExactly (InRow m (suc n)) (edge_of m n ∷ edges)
  row_more m n edges some are = list_means (λ (e : Edge). (e ≡ edge_of m n) ⊎ InRow m n e) (InRow m (suc n)) (edge_of m n ∷ edges)
      (λ e is. elim is [
        | inl same ↦ (ap (λ (x : Edge). x.producer) same, (let h : e.consumer ≡ n = ap (λ (x : Edge). x.consumer) same in omega arith), subst (λ (x : Edge). IsEdgeOf s x) (sym same) some)
        | inr old ↦ (old.0, (let h : e.consumer < n = old.1 in omega arith), old.2)
      ])
      (λ e is. elim (cases_lt e.consumer n) [
        | inl below ↦ inr (is.0, below, is.2)
        | inr high ↦ inl (same_edge e m n is.0 (let h : e.consumer < suc n = is.1 in omega arith))
      ])
      (list_both (λ (e : Edge). e ≡ edge_of m n) (InRow m n) (edge_of m n ∷ []) edges (list_one (edge_of m n)) are
      (λ e same old. let h : e.consumer ≡ n = ap (λ (x : Edge). x.consumer) same in let k : e.consumer < n = old.1 in absurd (omega arith)))

  row : (m n : ℕ) → (edges : List Edge) × HasExactly (InRow m n) edges
  row m zero = ([], list_none (InRow m zero) (λ e is. let h : e.consumer < 0 = is.1 in absurd (omega arith)))
  row m (suc n) =
      let (edges, are) = row m n in
      elim (numbers_cases m n) [
        | inl some ↦ (edge_of m n ∷ edges, row_more m n edges some are)
        | inr none ↦ (edges, row_same m n edges none are)
      ]

  rows_more : (m : ℕ) (edges more : List Edge) → HasExactly (InRows m) edges → HasExactly (InRow m (nodes s)) more → HasExactly (InRows (suc m)) (edges ++ more)
  rows_more m edges more are also = list_means (λ (e : Edge). InRows m e ⊎ InRow m (nodes s) e) (InRows (suc m)) (edges ++ more)
      (λ e is. elim is [
        | inl old ↦ ((let h : e.producer < m = old.0 in omega arith), old.1, old.2)
        | inr new ↦ ((let h : e.producer ≡ m = new.0 in omega arith), new.1, new.2)
      ])
      (λ e is. elim (cases_lt e.producer m) [
        | inl below ↦ inl (below, is.1, is.2)
        | inr high ↦ inr ((let h : e.producer < suc m = is.0 in omega arith), is.1, is.2)
      ])
      (list_both (InRows m) (InRow m (nodes s)) edges more are also
      (λ e old new. let h : e.producer < m = old.0 in let k : e.producer ≡ m = new.0 in absurd (omega arith)))

  rows : (m : ℕ) → (edges : List Edge) × HasExactly (InRows m) edges
  rows zero = ([], list_none (InRows zero) (λ e is. let h : e.producer < 0 = is.0 in absurd (omega arith)))
  rows (suc m) =
      let (edges, are) = rows m in
      let (more, also) = row m (nodes s) in
      (edges ++ more, rows_more m edges more are also)

  has_edges : (edges : List Edge) → HasExactly (InRows (nodes s)) edges → HasEdges s edges
  has_edges edges are p c = (
    λ edge.
        let ends = edge_nodes s p c edge in
        let (k, inside, at) = are.complete (edge_of (number_of p) (number_of c)) (number_below s p ends.0, number_below s c ends.1, (p, c, edge, refl)) in
        (k, edge_of (number_of p) (number_of c), inside, at, (refl, refl)),
    λ (k, e, inside, at, (producer, consumer)).
        let (q, d, edge, is) = (are.sound e (k, inside, at)).2 in
        let one : q ≡ p = same_node q p (sym (ap (λ (e : Edge). e.producer) is) ∙ producer) in
        let other : d ≡ c = same_node d c (sym (ap (λ (e : Edge). e.consumer) is) ∙ consumer) in
        subst (λ (n : Node). IsDataEdge s n c) one (subst (λ (n : Node). IsDataEdge s q n) other edge),
  )

  -- the data edges can be listed, each once
  pub edges_listed : (edges : List Edge) × HasEdges s edges × AllPairs (λ a b. a ≢ b) edges
  edges_listed = let (edges, are) = rows (nodes s) in (edges, has_edges edges are, are.once)
