-- What holds of the listed arcs, in any order.
use Rattle.std.proofs.Common.{◌≡◌, ◌≢◌, ℕ, ◌+◌, ◌*◌, ◌^◌, ◌<◌, ◌≤◌, List, length, get_or, length-append, refl, ap, sym, ◌∙◌, subst, arith, All, AllPairs, Contains, IsPermutation, Result, Ok, Err, IfOk}
use Rattle.std.specs.List.{range_with_len}
use Rattle.std.proofs.lemmas.List.FromFn.{length-range_with_len, get_or-range_with_len}
use Rattle.std.proofs.lemmas.List.Sorted.{Contains-permutation, IsPermutation-sym}
use Rattle.ds_base.proofs.ListLemmas.{get_or-self}
use Rattle.ds_marked.specs.Graph.{Graph, AreEnds}
use Rattle.ds_marked.specs.declared.marked.Arc.{Arc}
use Rattle.ds_latch.specs.Node.{Split, nodes}
use Rattle.ds_latch.specs.Order.{IsRequired}
use Rattle.ds_latch.specs.declared.latches.Edge.{Edge}
use Rattle.ds_latch.proofs.OrdersRise.{required_inside}
use Rattle.ds_control.specs.Control.{AreOrders, EndsDiffer, IsSimple}
use Rattle.ds_control.specs.Orders.{AreListed, closing_arc, opening_arc, reading_arc, freeing_arc, node_arcs, edge_arcs, required_arcs}
use Rattle.ds_control.proofs.Permuted.{pairs_permuted}
use Rattle.ds_control.proofs.Required.{arc, edge_ends_differ, listed_required, required_listed}
use Rattle.ds_control.proofs.TwoForEach.{Cross, all_two, length-two, pairs_append, pairs_two}

same_edge : (x y : Edge) → x.producer ≡ y.producer → x.consumer ≡ y.consumer → x ≡ y
same_edge x y e f = ap (λ (p : ℕ). let r : Edge = record { producer = p; consumer = x.consumer } in r) e ∙ ap (λ (q : ℕ). let r : Edge = record { producer = y.producer; consumer = q } in r) f

cross_nodes : (x y : ℕ) → x < y → Cross closing_arc opening_arc EndsDiffer x y
cross_nodes x y low = (
  (λ e. let a : 2 * x ≡ 2 * y = e.0 in absurd (omega arith), λ e. let a : 2 * x ≡ 2 * y + 1 = e.0 in absurd (omega arith)),
  (λ e. let a : 2 * x + 1 ≡ 2 * y = e.0 in absurd (omega arith), λ e. let a : 2 * x + 1 ≡ 2 * y + 1 = e.0 in absurd (omega arith)),
)

cross_edges : (slack : ℕ) (x y : Edge) → x ≢ y → Cross reading_arc (freeing_arc slack) EndsDiffer x y
cross_edges slack x y ne = (
  (
    λ e. let a : 2 * x.producer ≡ 2 * y.producer = e.0 in let b : 2 * x.consumer ≡ 2 * y.consumer = e.1 in ne (same_edge x y (omega arith) (omega arith)),
    λ e. let a : 2 * x.producer ≡ 2 * y.consumer + 1 = e.0 in absurd (omega arith),
  ),
  (
    λ e. let a : 2 * x.consumer + 1 ≡ 2 * y.producer = e.0 in absurd (omega arith),
    λ e. let a : 2 * x.consumer + 1 ≡ 2 * y.consumer + 1 = e.0 in let b : 2 * x.producer ≡ 2 * y.producer = e.1 in ne (same_edge x y (omega arith) (omega arith)),
  ),
)

cross_both : (slack n : ℕ) (x : Edge) → x.producer ≢ x.consumer
    → ((EndsDiffer (closing_arc n) (reading_arc x) × EndsDiffer (closing_arc n) (freeing_arc slack x)) × (EndsDiffer (opening_arc n) (reading_arc x) × EndsDiffer (opening_arc n) (freeing_arc slack x)))
cross_both slack n x ne = (
  (λ e. let a : 2 * n + 1 ≡ 2 * x.consumer = e.1 in absurd (omega arith), λ e. let a : 2 * n ≡ 2 * x.consumer + 1 = e.0 in absurd (omega arith)),
  (
    λ e. let a : 2 * n + 1 ≡ 2 * x.producer = e.0 in absurd (omega arith),
    λ e. let a : 2 * n + 1 ≡ 2 * x.consumer + 1 = e.0 in let b : 2 * n ≡ 2 * x.producer = e.1 in ne (omega arith),
  ),
)

pub ends_differ-sym : (a b : Arc) → EndsDiffer a b → EndsDiffer b a
ends_differ-sym a b ne e = ne (sym e.0, sym e.1)

pub node_pairs : (count : ℕ) → AllPairs EndsDiffer (node_arcs count)
node_pairs count = pairs_two closing_arc opening_arc EndsDiffer (range_with_len 0 count)
    (λ i j d below inside.
    let high : j < count = rw (← length-range_with_len 0 count) inside in
    let one : get_or (range_with_len 0 count) i d ≡ 0 + i = get_or-range_with_len 0 count i d (omega arith) in
    let two : get_or (range_with_len 0 count) j d ≡ 0 + j = get_or-range_with_len 0 count j d high in
    cross_nodes (get_or (range_with_len 0 count) i d) (get_or (range_with_len 0 count) j d) (omega arith))
    (λ k d inside e. let n : ℕ = get_or (range_with_len 0 count) k d in let a : 2 * n ≡ 2 * n + 1 = e.0 in absurd (omega arith))

module _ (s : Split) (arcs : List Arc) (listed : AreListed s arcs) where
  edges : List Edge
  edges = listed.edges

  serves : (a : Arc) → Contains arcs a → IsRequired s a.source a.target a.tokens
  serves a at = listed_required s listed.edges listed.has_edges a (subst (λ (xs : List Arc). Contains xs a) listed.is at)

  pub listed_ends : (n : ℕ) → n ≡ 2 * nodes s → AreEnds n arcs
  listed_ends n is k d inside =
      let a : Arc = get_or arcs k d in
      let both : (a.source < 2 * nodes s) × (a.target < 2 * nodes s) = required_inside s a.source a.target a.tokens (serves a (k, inside, get_or-self arcs k d inside)) in
      (rw is both.0, rw is both.1)

  pub listed_few : length arcs < 2 ^ 32
  listed_few =
      let nodes_size : length (node_arcs (nodes s)) ≡ 2 * length (range_with_len 0 (nodes s)) = length-two closing_arc opening_arc (range_with_len 0 (nodes s)) in
      let range_size : length (range_with_len 0 (nodes s)) ≡ nodes s = length-range_with_len 0 (nodes s) in
      let edges_size : length (edge_arcs s.slack listed.edges) ≡ 2 * length listed.edges = length-two reading_arc (freeing_arc s.slack) listed.edges in
      let all : length arcs ≡ length (node_arcs (nodes s)) + length (edge_arcs s.slack listed.edges) = ap (λ (xs : List Arc). length xs) listed.is ∙ length-append (node_arcs (nodes s)) (edge_arcs s.slack listed.edges) in
      let few : 2 * nodes s + 2 * length listed.edges ≤ 1048576 = listed.few in
      omega arith

  edge_pairs : AllPairs EndsDiffer (edge_arcs s.slack listed.edges)
  edge_pairs = pairs_two reading_arc (freeing_arc s.slack) EndsDiffer listed.edges
      (λ i j d below inside. cross_edges s.slack (get_or listed.edges i d) (get_or listed.edges j d) (listed.once i j d below inside))
      (λ k d inside e. let x : Edge = get_or listed.edges k d in let a : 2 * x.producer ≡ 2 * x.consumer + 1 = e.0 in absurd (omega arith))

  node_edge : (n : ℕ) → All (EndsDiffer (closing_arc n)) (edge_arcs s.slack listed.edges) × All (EndsDiffer (opening_arc n)) (edge_arcs s.slack listed.edges)
  node_edge n =
      let far : (k : ℕ) (d : Edge) → k < length listed.edges → (get_or listed.edges k d).producer ≢ (get_or listed.edges k d).consumer =
      λ k d inside. edge_ends_differ s listed.edges listed.has_edges (get_or listed.edges k d) (k, inside, get_or-self listed.edges k d inside) in (
        all_two reading_arc (freeing_arc s.slack) (EndsDiffer (closing_arc n)) listed.edges (λ k d inside. (cross_both s.slack n (get_or listed.edges k d) (far k d inside)).0),
        all_two reading_arc (freeing_arc s.slack) (EndsDiffer (opening_arc n)) listed.edges (λ k d inside. (cross_both s.slack n (get_or listed.edges k d) (far k d inside)).1),
      )

  required_pairs : AllPairs EndsDiffer (required_arcs s listed.edges)
  required_pairs = pairs_append EndsDiffer (node_arcs (nodes s)) (edge_arcs s.slack listed.edges) (node_pairs (nodes s)) edge_pairs
      (all_two closing_arc opening_arc (λ a. All (EndsDiffer a) (edge_arcs s.slack listed.edges)) (range_with_len 0 (nodes s)) (λ k d inside. node_edge (get_or (range_with_len 0 (nodes s)) k d)))

  module _ (g : Graph) (same : IsPermutation arcs g.arcs) where
    pub sorted_simple : IsSimple g
    sorted_simple = pairs_permuted EndsDiffer ends_differ-sym arcs g.arcs same (subst (AllPairs EndsDiffer) (sym listed.is) required_pairs)

    pub sorted_orders : AreOrders s g
    sorted_orders u v tokens = (
      λ required.
          let at : Contains arcs (arc u v tokens) = subst (λ (xs : List Arc). Contains xs (arc u v tokens)) (sym listed.is) (required_listed s listed.edges listed.has_edges u v tokens required) in
          let (k, inside, is) = Contains-permutation arcs g.arcs (arc u v tokens) same at in
          (k, arc u v tokens, inside, is, (refl, refl, refl)),
      λ (k, a, inside, is, (su, tv, kt)).
          subst (λ (u : ℕ). IsRequired s u v tokens) su (subst (λ (v : ℕ). IsRequired s a.source v tokens) tv (subst (λ (tokens : ℕ). IsRequired s a.source a.target tokens) kt
          (serves a (Contains-permutation g.arcs arcs a (IsPermutation-sym arcs g.arcs same) (k, inside, is))))),
    )

-- what follows where there is an answer
pub if_ok : {T E : Type 0} (r : Result T E) (P Q : T → Type 0) → ((x : T) → P x → Q x) → IfOk r P → IfOk r Q
if_ok (Ok x) P Q so is = so x is
if_ok (Err e) P Q so is = tt

pub if_both : {T E : Type 0} (r : Result T E) (P Q R : T → Type 0) → ((x : T) → P x → Q x → R x) → IfOk r P → IfOk r Q → IfOk r R
if_both (Ok x) P Q R so one two = so x one two
if_both (Err e) P Q R so one two = tt
