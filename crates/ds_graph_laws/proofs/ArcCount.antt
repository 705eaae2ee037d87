-- A controller graph has two arcs for each node and two for each data edge.
use Rattle.std.proofs.Common.{◌≡◌, ◌≢◌, ◌∙◌, ℕ, ◌+◌, ◌*◌, ◌<◌, ◌≤◌, List, length, get_or, length-append, refl, ap, subst, arith, All, AllPairs, Contains}
use Rattle.std.specs.List.{range_with_len}
use Rattle.std.proofs.lemmas.List.FromFn.{length-range_with_len}
use Rattle.ds_base.proofs.ListLemmas.{get_or-self}
use Rattle.ds_marked.specs.Graph.{Graph}
use Rattle.ds_marked.specs.declared.marked.Arc.{Arc}
use Rattle.ds_latch.specs.Node.{Split, nodes}
use Rattle.ds_latch.specs.Latches.{HasEdges}
use Rattle.ds_latch.specs.declared.latches.Edge.{Edge}
use Rattle.ds_split.proofs.DataEdges.{same_edge}
use Rattle.ds_split.proofs.Pigeons.{few_different}
use Rattle.ds_control.specs.Control.{AreOrders, EndsDiffer, IsSimple}
use Rattle.ds_control.specs.Orders.{closing_arc, opening_arc, reading_arc, freeing_arc, node_arcs, edge_arcs, required_arcs}
use Rattle.ds_control.proofs.ListedArcs.{node_pairs}
use Rattle.ds_control.proofs.Required.{edge_ends_differ, listed_required, required_listed}
use Rattle.ds_control.proofs.TwoForEach.{Cross, all_two, length-two, pairs_append, pairs_two}
use Rattle.ds_graph_laws.specs.CountedArcs.{ControllersAreCounted}

-- arcs with different ends are different
ends_apart : (arcs : List Arc) → AllPairs EndsDiffer arcs → AllPairs (λ a b. a ≢ b) arcs
ends_apart arcs pairs i j d below inside same =
    pairs i j d below inside (ap (λ (a : Arc). a.source) same, ap (λ (a : Arc). a.target) same)

-- the orders of different edges have different ends
cross_edges : (slack : ℕ) (x y : Edge) → x ≢ y → Cross reading_arc (freeing_arc slack) EndsDiffer x y
cross_edges slack x y ne = (
  (
    λ e. let a : 2 * x.producer ≡ 2 * y.producer = e.0 in let b : 2 * x.consumer ≡ 2 * y.consumer = e.1 in ne (same_edge x y.producer y.consumer (omega arith) (omega arith)),
    λ e. let a : 2 * x.producer ≡ 2 * y.consumer + 1 = e.0 in absurd (omega arith),
  ),
  (
    λ e. let a : 2 * x.consumer + 1 ≡ 2 * y.producer = e.0 in absurd (omega arith),
    λ e. let a : 2 * x.consumer + 1 ≡ 2 * y.consumer + 1 = e.0 in let b : 2 * x.producer ≡ 2 * y.producer = e.1 in ne (same_edge x y.producer y.consumer (omega arith) (omega arith)),
  ),
)

-- so have those of a node and of an edge
closing_apart : (slack n : ℕ) (x : Edge) → EndsDiffer (closing_arc n) (reading_arc x) × EndsDiffer (closing_arc n) (freeing_arc slack x)
closing_apart slack n x = (
  λ e. let a : 2 * n + 1 ≡ 2 * x.consumer = e.1 in absurd (omega arith),
  λ e. let a : 2 * n ≡ 2 * x.consumer + 1 = e.0 in absurd (omega arith),
)

opening_apart : (slack n : ℕ) (x : Edge) → x.producer ≢ x.consumer → EndsDiffer (opening_arc n) (reading_arc x) × EndsDiffer (opening_arc n) (freeing_arc slack x)
opening_apart slack n x ne = (
  λ e. let a : 2 * n + 1 ≡ 2 * x.producer = e.0 in absurd (omega arith),
  λ e. let a : 2 * n + 1 ≡ 2 * x.consumer + 1 = e.0 in let b : 2 * n ≡ 2 * x.producer = e.1 in ne (omega arith),
)

module _ (s : Split) (edges : List Edge) (has : HasEdges s edges) where
  far : (k : ℕ) (d : Edge) → k < length edges → (get_or edges k d).producer ≢ (get_or edges k d).consumer
  far k d inside = edge_ends_differ s edges has (get_or edges k d) (k, inside, get_or-self edges k d inside)

  -- as many as there are nodes and edges, twice
  many : length (required_arcs s edges) ≡ 2 * nodes s + 2 * length edges
  many =
      let nodes_size : length (node_arcs (nodes s)) ≡ 2 * length (range_with_len 0 (nodes s)) = length-two closing_arc opening_arc (range_with_len 0 (nodes s)) in
      let range_size : length (range_with_len 0 (nodes s)) ≡ nodes s = length-range_with_len 0 (nodes s) in
      let edges_size : length (edge_arcs s.slack edges) ≡ 2 * length edges = length-two reading_arc (freeing_arc s.slack) edges in
      let all : length (required_arcs s edges) ≡ length (node_arcs (nodes s)) + length (edge_arcs s.slack edges) = length-append (node_arcs (nodes s)) (edge_arcs s.slack edges) in
      omega arith

  node_edge : (n : ℕ) → All (EndsDiffer (closing_arc n)) (edge_arcs s.slack edges) × All (EndsDiffer (opening_arc n)) (edge_arcs s.slack edges)
  node_edge n = (
    all_two reading_arc (freeing_arc s.slack) (EndsDiffer (closing_arc n)) edges (λ k d inside. closing_apart s.slack n (get_or edges k d)),
    all_two reading_arc (freeing_arc s.slack) (EndsDiffer (opening_arc n)) edges (λ k d inside. opening_apart s.slack n (get_or edges k d) (far k d inside)),
  )

  module _ (once : AllPairs (λ a b. a ≢ b) edges) where
    edge_pairs : AllPairs EndsDiffer (edge_arcs s.slack edges)
    edge_pairs = pairs_two reading_arc (freeing_arc s.slack) EndsDiffer edges
        (λ i j d below inside. cross_edges s.slack (get_or edges i d) (get_or edges j d) (once i j d below inside))
        (λ k d inside e. let x : Edge = get_or edges k d in let a : 2 * x.producer ≡ 2 * x.consumer + 1 = e.0 in absurd (omega arith))

    -- no two of the required orders have the same ends
    required_pairs : AllPairs EndsDiffer (required_arcs s edges)
    required_pairs = pairs_append EndsDiffer (node_arcs (nodes s)) (edge_arcs s.slack edges) (node_pairs (nodes s)) edge_pairs
        (all_two closing_arc opening_arc (λ a. All (EndsDiffer a) (edge_arcs s.slack edges)) (range_with_len 0 (nodes s)) (λ k d inside. node_edge (get_or (range_with_len 0 (nodes s)) k d)))

    module _ (g : Graph) (orders : AreOrders s g) where
      -- an arc is a required order
      arc_listed : (a : Arc) → Contains g.arcs a → Contains (required_arcs s edges) a
      arc_listed a (k, inside, is) =
          required_listed s edges has a.source a.target a.tokens ((orders a.source a.target a.tokens).1 (k, a, inside, is, (refl, refl, refl)))

      same_arc : (a b : Arc) → b.source ≡ a.source → b.target ≡ a.target → b.tokens ≡ a.tokens → b ≡ a
      same_arc a b e f h =
          ap (λ (u : ℕ). let r : Arc = record { source = u; target = b.target; tokens = b.tokens } in r) e
          ∙ (ap (λ (v : ℕ). let r : Arc = record { source = a.source; target = v; tokens = b.tokens } in r) f
          ∙ ap (λ (t : ℕ). let r : Arc = record { source = a.source; target = a.target; tokens = t } in r) h)

      -- a required order is an arc
      order_there : (a : Arc) → Contains (required_arcs s edges) a → Contains g.arcs a
      order_there a at =
          let (k, b, inside, is, (e, f, h)) = (orders a.source a.target a.tokens).0 (listed_required s edges has a at) in
          subst (λ (y : Arc). Contains g.arcs y) (same_arc a b e f h) (k, inside, is)

      so_many : IsSimple g → length g.arcs ≡ length (required_arcs s edges)
      so_many simple =
          let few : length g.arcs ≤ length (required_arcs s edges) = few_different g.arcs (required_arcs s edges) (ends_apart g.arcs simple) arc_listed in
          let all : length (required_arcs s edges) ≤ length g.arcs = few_different (required_arcs s edges) g.arcs (ends_apart (required_arcs s edges) required_pairs) order_there in
          omega arith

-- so many arcs as there are required orders
pub controllers_are_counted : ControllersAreCounted
controllers_are_counted s g orders simple edges has once = so_many s edges has once g orders simple ∙ many s edges has
